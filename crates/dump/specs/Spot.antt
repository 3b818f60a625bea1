-- Lines and columns, counted from 1; a line ends at its line feed.
use Rattle.std.specs.Prelude.{cond, List, [], ◌∷◌, ℕ, ◌+◌, ◌-◌, eqb, length, take}

-- the line of what stands behind a text, and its column, from a line and a column on
abbrev pub line_from : ℕ → List ℕ → ℕ
line_from l [] = l
line_from l (c ∷ s) = line_from (cond (eqb c 10) (l + 1) l) s

abbrev pub column_from : ℕ → List ℕ → ℕ
column_from k [] = k
column_from k (c ∷ s) = column_from (cond (eqb c 10) 1 (k + 1)) s

-- the line that a text's last character stands in
abbrev pub last_line : List ℕ → ℕ
last_line s = line_from 1 (take (length s - 1) s)
