-- Decimal numbers: digits alone, at least one; a sign in front where a number may be below zero.
use Rattle.std.specs.Prelude.{List, [], ◌∷◌, Bool, cond, ◌&&◌, ℕ, ◌+◌, ◌*◌, ◌-◌, eqb, leb, ltb, length, ℤ, pos, neg_ℤ, Result, Ok, Err}
use Rattle.text.specs.Words.{all}
use Rattle.text.specs.declared.read_decimals.NumberError.{NumberError}
use Rattle.text.specs.declared.read_decimals.NumberError.TheVariants.{NotDigits, Over}

abbrev pub is_digit : ℕ → Bool
is_digit b = leb 48 b && leb b 57

unfoldable pub digits : List ℕ → Bool
digits s = ltb 0 (length s) && all is_digit s

-- the value of digits after those whose value is n
abbrev pub value_from : List ℕ → ℕ → ℕ
value_from [] n = n
value_from (b ∷ s) n = value_from s (n * 10 + (b - 48))

unfoldable pub valued : ℕ → List ℕ → Result ℕ NumberError
valued most s = cond (leb (value_from s 0) most) (Ok (value_from s 0)) (Err Over)

-- a number from 0 to most
unfoldable pub number_of : ℕ → List ℕ → Result ℕ NumberError
number_of most s = cond (digits s) (valued most s) (Err NotDigits)

abbrev pub positive : Result ℕ NumberError → Result ℤ NumberError
positive (Ok n) = Ok (pos n)
positive (Err e) = Err e

abbrev pub negated : Result ℕ NumberError → Result ℤ NumberError
negated (Ok n) = Ok (neg_ℤ (pos n))
negated (Err e) = Err e

-- a number of 32 bits with a sign
unfoldable pub signed_of : List ℕ → Result ℤ NumberError
signed_of [] = Err NotDigits
signed_of (b ∷ s) = cond (eqb b 45) (negated (number_of 2147483648 s)) (positive (number_of 2147483647 (b ∷ s)))
