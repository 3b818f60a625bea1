-- A log as text: a line for each record.
use Rattle.std.specs.Prelude.{cond, List, [], ◌∷◌, ◌++◌, ℕ, ltb, get_or}
use Rattle.text.specs.declared.hex.Case.TheVariants.{Upper}
use Rattle.text.specs.Words.{ascii}
use Rattle.text.specs.Numbers.{hex}

-- document 01's letters for the kinds 0 to 6; a kind that there is not is a question mark
abbrev pub letter_of : ℕ → ℕ
letter_of k = cond (ltb k 7) (get_or (ascii "RWFGSPZ") k 0) 63

-- letter, address and data, parted by tabs
abbrev pub record_text : ℕ → ℕ → ℕ → List ℕ
record_text k a d = (letter_of k ∷ 9 ∷ []) ++ (hex Upper (a ∷ []) ++ (ascii "\t" ++ (hex Upper (d ∷ []) ++ ascii "\n")))

-- each whole record
abbrev pub records_text : List ℕ → List ℕ
records_text [] = []
records_text (k ∷ []) = []
records_text (k ∷ a ∷ []) = []
records_text (k ∷ a ∷ d ∷ s) = record_text k a d ++ records_text s
