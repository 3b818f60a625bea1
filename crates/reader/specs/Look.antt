-- How far the reader looks: up to the first register with which the values so far fit no accepted link.
use Rattle.std.specs.Prelude.{◌≡◌, true, List, ℕ, ◌-◌, ◌≤◌, ◌<◌, T, get_or}
use Rattle.sheets.specs.Reader.{reader_order}
use Rattle.params.specs.declared.board.Board.{Board}
use Rattle.page.specs.Page.{first, fits}
use Rattle.page.specs.Lora.{page}
use Rattle.reader.specs.Tests.{registers}

-- the first n values of the image are those of an accepted link (`first_fits`, page/proofs/Prefix.antt)
abbrev pub Fit : Board → List ℕ → ℕ → Type 0
Fit b im n = T (fits (first (page b) n) im)

-- r is the least number of values that do not fit, or the number of all where all of them fit
pub record Examined (b : Board) (im : List ℕ) (r : ℕ) : Type 0 where
  pub within : r ≤ registers b
  pub before : (n : ℕ) → n < r → Fit b im n
  pub last : Fit b im r → r ≡ registers b

-- r is the address of the last of these registers in the reader's order
pub record LastExamined (b : Board) (im : List ℕ) (r : ℕ) : Type 0 where
  pub count : ℕ
  pub examined : Examined b im count
  pub register : r ≡ get_or (reader_order b.variant true) (count - 1) 0
