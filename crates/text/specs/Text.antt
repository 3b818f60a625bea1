-- What it is to write a text behind what stands in a place already.
use Rattle.std.specs.Prelude.{◌≡◌, List, ◌++◌, ℕ, ◌+◌, ◌≤◌, length, take, drop}
use Rattle.text.specs.declared.printing.Text.{Text}

-- out with the text from `at` on
unfoldable pub over : ℕ → List ℕ → List ℕ → List ℕ
over at text out = take at out ++ (text ++ drop (at + length text) out)

-- out' is out with the text from `at` on; r is where the text ends. The middle two follow from the others and say what callers ask.
pub record Appended (text : List ℕ) (at : ℕ) (out : List ℕ) (r : ℕ) (out' : List ℕ) : Type 0 where
  pub ends : r ≡ at + length text
  pub fits : r ≤ length out
  pub kept : length out' ≡ length out
  pub leaves : out' ≡ over at text out

-- there is room for n bytes more
abbrev pub Space : ℕ → Text → Type 0
Space n t = t.end + n ≤ length t.place.now

-- s stands behind what stood there, in the same place
pub record Put (s : List ℕ) (before after : Text) : Type 0 where
  pub same : after.place.ghost_name ≡ before.place.ghost_name
  pub appended : Appended s before.end before.place.now after.end after.place.now
