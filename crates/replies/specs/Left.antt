-- The end of an outcome's line: what was lent as it is afterwards, and the bytes used.
use Rattle.std.specs.Prelude.{cond, List, ◌++◌, ℕ, eqb, length}
use Rattle.text.specs.declared.hex.Case.TheVariants.{Lower}
use Rattle.text.specs.Words.{ascii}
use Rattle.text.specs.Numbers.{decimal, hex}

-- a tab, and the bytes in hexadecimal digits, or `-` for none
abbrev pub lent_text : List ℕ → List ℕ
lent_text s = cond (eqb (length s) 0) (ascii "\t-") (ascii "\t" ++ hex Lower s)

abbrev pub used_text : ℕ → List ℕ
used_text used = ascii "\t" ++ (decimal used ++ ascii "\n")

abbrev pub left_text : List ℕ → List ℕ → List ℕ → List ℕ → ℕ → List ℕ
left_text image fifo buffer log used = (lent_text image ++ lent_text fifo) ++ ((lent_text buffer ++ lent_text log) ++ used_text used)
