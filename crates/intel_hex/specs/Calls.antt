-- What the two calls answer, and what they leave of what was lent.
use Rattle.std.specs.Prelude.{cond, List, ◌++◌, ℕ, eqb, leb, length, drop, ⊤, Result, Ok, Err}
use Rattle.params.specs.declared.mod_params.RadioError.{RadioError}
use Rattle.params.specs.declared.mod_params.RadioError.TheVariants.{BadImage, TextFull}
use Rattle.params.specs.declared.answers.HexError.{HexError}
use Rattle.params.specs.declared.answers.HexError.TheVariants as reading
use Rattle.intel_hex.specs.Places.{image_of}
use Rattle.intel_hex.specs.Faults.{Outcome, Records, Bad, outcome}
use Rattle.intel_hex.specs.Layout.{layout, layout_size}

-- ---- `write_hex`, in a text of so many bytes

unfoldable pub write_answer : List ℕ → ℕ → Result ℕ RadioError
write_answer image room =
    cond (eqb (length image) 128) (cond (leb layout_size room) (Ok layout_size) (Err TextFull)) (Err BadImage)

abbrev pub written : Result ℕ RadioError → List ℕ → List ℕ → List ℕ
written (Ok size) image text = layout image ++ drop size text
written (Err e) image text = text

unfoldable pub write_leaves : List ℕ → List ℕ → List ℕ
write_leaves image text = written (write_answer image (length text)) image text

-- ---- `read_hex`, into an image of so many bytes

abbrev pub answered : Outcome → Result ⊤ HexError
answered (Records rs) = Ok tt
answered (Bad f n) = Err (reading.Bad f n)

abbrev pub taken : Outcome → List ℕ → List ℕ
taken (Records rs) image = image_of rs
taken (Bad f n) image = image

unfoldable pub read_answer : List ℕ → ℕ → Result ⊤ HexError
read_answer text size = cond (eqb size 128) (answered (outcome text)) (Err (reading.Refused BadImage))

unfoldable pub read_leaves : List ℕ → List ℕ → List ℕ
read_leaves text image = cond (eqb (length image) 128) (taken (outcome text) image) image
