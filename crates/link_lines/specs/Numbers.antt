-- Numbers as people write them: with a name and a unit, as register bytes.
use Rattle.std.specs.Prelude.{cond, List, [], ◌∷◌, ◌++◌, ℕ, eqb}
use Rattle.text.specs.declared.hex.Case.TheVariants.{Upper}
use Rattle.text.specs.Words.{ascii}
use Rattle.text.specs.Numbers.{decimal, hex}

abbrev pub counted : List ℕ → ℕ → List ℕ → List ℕ
counted name n unit = name ++ (decimal n ++ unit)

-- one text or the other, as a flag says
abbrev pub choice : ℕ → List ℕ → List ℕ → List ℕ
choice flag set clear = cond (eqb flag 0) clear set

abbrev pub byte_text : ℕ → List ℕ
byte_text b = hex Upper (b ∷ [])

abbrev pub bytes_text : ℕ → ℕ → ℕ → List ℕ
bytes_text a b c = byte_text a ++ ((ascii " " ++ byte_text b) ++ (ascii " " ++ byte_text c))
