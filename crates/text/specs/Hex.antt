-- Bytes as hexadecimal digits, two a byte, the high one first.
use Rattle.std.specs.Prelude.{List, [], ◌∷◌, ◌++◌, Bool, cond, ◌&&◌, ◌||◌, ℕ, ◌+◌, ◌*◌, ◌-◌, ◌/◌, ◌%◌, eqb, leb, length, drop, Result, Ok, Err}
use Rattle.text.specs.Words.{all}
use Rattle.text.specs.Decimal.{is_digit}
use Rattle.text.specs.declared.hex.Case.{Case}
use Rattle.text.specs.declared.hex.Case.TheVariants.{Lower, Upper}
use Rattle.text.specs.declared.hex.BytesError.{BytesError}
use Rattle.text.specs.declared.hex.BytesError.TheVariants.{NotHex, Over}

-- the letter that stands for ten
abbrev pub ten : Case → ℕ
ten Lower = 97
ten Upper = 65

-- one of the six letters from a on
abbrev pub is_letter : ℕ → ℕ → Bool
is_letter a b = leb a b && leb (b - a) 5

abbrev pub is_nibble : ℕ → ℕ → Bool
is_nibble a b = is_digit b || is_letter a b

-- what a digit is worth
abbrev pub nibble : ℕ → ℕ → ℕ
nibble a b = cond (is_digit b) (b - 48) (cond (is_letter a b) (b - a + 10) 0)

-- a digit of either letter case, and what it is worth
abbrev pub any_digit : ℕ → Bool
any_digit b = is_nibble 65 b || is_nibble 97 b

abbrev pub worth : ℕ → ℕ
worth b = cond (is_nibble 65 b) (nibble 65 b) (nibble 97 b)

-- whole bytes, of digits alone
unfoldable pub hex_digits : ℕ → List ℕ → Bool
hex_digits a s = eqb (length s % 2) 0 && all (is_nibble a) s

abbrev pub bytes_of : ℕ → List ℕ → List ℕ
bytes_of a [] = []
bytes_of a (h ∷ []) = []
bytes_of a (h ∷ l ∷ s) = (nibble a h * 16 + nibble a l) ∷ bytes_of a s

-- how many bytes s says, where there is room for so many
unfoldable pub bytes_read : Case → List ℕ → ℕ → Result ℕ BytesError
bytes_read c s room =
    cond (hex_digits (ten c) s) (cond (leb (length s / 2) room) (Ok (length s / 2)) (Err Over)) (Err NotHex)

-- and what they make of the place that was lent
unfoldable pub bytes_left : Case → List ℕ → List ℕ → List ℕ
bytes_left c s out =
    cond (hex_digits (ten c) s && leb (length s / 2) (length out)) (bytes_of (ten c) s ++ drop (length s / 2) out) out
