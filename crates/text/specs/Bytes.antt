-- Where a byte stands in a text.
use Rattle.std.specs.Prelude.{◌≡◌, List, [], ◌∷◌, cond, ℕ, suc, ◌<◌, eqb, length, Option, Some, None}

-- where b stands first in s; where it does not, the end of s
unfoldable pub index_of : ℕ → List ℕ → ℕ
index_of b [] = 0
index_of b (x ∷ s) = cond (eqb x b) 0 (suc (index_of b s))

-- r is where b stands first in s, or None where it does not
abbrev pub Found : ℕ → List ℕ → Option ℕ → Type 0
Found b s None = index_of b s ≡ length s
Found b s (Some i) = (i ≡ index_of b s) × (i < length s)
