-- An answer as text: its number and its values.
use Rattle.std.specs.Prelude.{List, [], ◌∷◌, ◌++◌, ℕ, ℤ}
use Rattle.params.specs.Errors.{Told}
use Rattle.text.specs.Numbers.{decimal, signed}

-- a space before each value
abbrev pub values_text : List ℤ → List ℕ
values_text [] = []
values_text (v ∷ vs) = 32 ∷ (signed v ++ values_text vs)

unfoldable pub answer_text : Told → List ℕ
answer_text t = decimal t.number ++ values_text t.values
