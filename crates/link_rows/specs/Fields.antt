-- The fields of a row, and those of a board.
use Rattle.std.specs.Prelude.{Bool, true, false, List, [], ◌∷◌, ◌++◌, ℕ}
use Rattle.sheets.specs.declared.Variant.{Variant}
use Rattle.sheets.specs.declared.Variant.TheVariants.{Sx1272, Sx1276}
use Rattle.params.specs.declared.board.Board.{Board}
use Rattle.text.specs.Words.{ascii}
use Rattle.link_lines.specs.Numbers.{counted}

abbrev pub field : ℕ → List ℕ
field n = counted (ascii "\t") n []

-- one behind another
abbrev pub fields : List ℕ → List ℕ
fields [] = []
fields (n ∷ ns) = field n ++ fields ns

abbrev pub chip : Variant → ℕ
chip Sx1272 = 1272
chip Sx1276 = 1276

abbrev pub bit : Bool → ℕ
bit true = 1
bit false = 0

-- the board, and the number that the reader answers
abbrev pub board_fields : Board → ℕ → List ℕ
board_fields b answer = fields (chip b.variant ∷ bit b.tcxo_used ∷ bit b.tx_boost ∷ answer ∷ [])
