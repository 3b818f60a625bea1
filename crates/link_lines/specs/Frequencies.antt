-- A frequency in MHz and a bandwidth in kHz.
use Rattle.std.specs.Prelude.{cond, List, [], ◌∷◌, ◌++◌, ℕ, ◌+◌, ◌/◌, ◌%◌, eqb}
use Rattle.text.specs.Words.{ascii}
use Rattle.text.specs.Numbers.{decimal}

-- the last two digits
abbrev pub two_digits : ℕ → List ℕ
two_digits n = (48 + n / 10 % 10) ∷ (48 + n % 10) ∷ []

abbrev pub six_digits : ℕ → List ℕ
six_digits n = two_digits (n / 10000) ++ (two_digits (n / 100) ++ two_digits n)

-- with six decimals
unfoldable pub megahertz : ℕ → List ℕ
megahertz hz = decimal (hz / 1000000) ++ (ascii "." ++ six_digits hz)

-- with two decimals where it is no whole number
unfoldable pub kilohertz : ℕ → List ℕ
kilohertz hz = decimal (hz / 1000) ++ cond (eqb (hz % 1000) 0) [] (ascii "." ++ two_digits (hz / 10))
