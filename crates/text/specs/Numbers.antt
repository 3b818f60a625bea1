-- Numbers and bytes as text.
use Rattle.std.specs.Prelude.{List, [], ◌∷◌, ◌++◌, cond, ℕ, zero, suc, ◌+◌, ◌-◌, ◌/◌, ◌%◌, ltb, ℤ, pos, negsuc}
use Rattle.text.specs.declared.hex.Case.{Case}
use Rattle.text.specs.Hex.{ten}

-- up to k decimal digits of n, the fewest that say it
abbrev pub decimal_from : ℕ → ℕ → List ℕ
decimal_from zero n = []
decimal_from (suc k) n = cond (ltb n 10) ((48 + n) ∷ []) (decimal_from k (n / 10) ++ ((48 + n % 10) ∷ []))

-- 20 digits say every number of 64 bits
unfoldable pub decimal : ℕ → List ℕ
decimal n = decimal_from 20 n

abbrev pub signed : ℤ → List ℕ
signed (pos n) = decimal n
signed (negsuc n) = 45 ∷ decimal (suc n)

-- the digit d where the letter a stands for ten
abbrev pub hex_digit : ℕ → ℕ → ℕ
hex_digit a d = cond (ltb d 10) (48 + d) (d - 10 + a)

abbrev pub hex_from : ℕ → List ℕ → List ℕ
hex_from a [] = []
hex_from a (b ∷ s) = hex_digit a (b / 16) ∷ hex_digit a (b % 16) ∷ hex_from a s

abbrev pub hex : Case → List ℕ → List ℕ
hex c s = hex_from (ten c) s
