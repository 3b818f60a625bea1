-- The fields of a line, parted by a byte, and a text's parts.
use Rattle.std.specs.Prelude.{List, [], ◌∷◌, cond, ℕ, zero, suc, eqb, take, drop}
use Rattle.text.specs.Bytes.{index_of}

-- how often b stands in s
abbrev pub count_of : ℕ → List ℕ → ℕ
count_of b [] = 0
count_of b (x ∷ s) = cond (eqb x b) (suc (count_of b s)) (count_of b s)

-- field k of s, counted from 0: what stands before the first separator, after k of them
abbrev pub field_at : ℕ → ℕ → List ℕ → List ℕ
field_at sep zero s = take (index_of sep s) s
field_at sep (suc k) s = field_at sep k (drop (suc (index_of sep s)) s)

-- parts: what stands before a byte, between two of it, and after the last, so one more than there are such bytes

abbrev pub longer : ℕ → List (List ℕ) → List (List ℕ)
longer b [] = (b ∷ []) ∷ []
longer b (p ∷ ps) = (b ∷ p) ∷ ps

abbrev pub parts : ℕ → List ℕ → List (List ℕ)
parts sep [] = [] ∷ []
parts sep (b ∷ s) = cond (eqb b sep) ([] ∷ parts sep s) (longer b (parts sep s))
