-- What a C caller is told of an answer: its number, and in the results that he lends the bytes used and the values.
use Rattle.std.specs.Prelude.{◌≡◌, List, [], ◌∷◌, ℕ, ◌+◌, set, ℤ, pos}
use Rattle.params.specs.Errors.{Told}
use Rattle.results.specs.Word.{word}

abbrev pub words : List ℤ → List ℕ
words [] = []
words (z ∷ zs) = word z ∷ words zs

-- xs with ys from place i on, as many of them as xs has places for
abbrev pub placed : ℕ → List ℕ → List ℕ → List ℕ
placed i [] xs = xs
placed i (y ∷ ys) xs = placed (i + 1) ys (set xs i y)

-- An answer's number, and in the results the bytes used, then its values.
pub record Tells (t : Told) (used : ℕ) (before : List ℕ) (number : ℤ) (results : List ℕ) : Type 0 where
  pub numbers : number ≡ pos t.number
  pub lists : results ≡ placed 0 (used ∷ words t.values) before
