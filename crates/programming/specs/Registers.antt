-- The registers that both variants have at one address, of those that a link is programmed into.
use Rattle.std.specs.Prelude.{List, [], ◌∷◌, ℕ}
use Rattle.sheets.specs.declared.Variant.{Variant}
use Rattle.sheets.specs.declared.Variant.TheVariants.{Sx1272, Sx1276}

-- the last first, as a match leaves them behind
abbrev pub alike : List ℕ
alike = 0x3b ∷ 0x39 ∷ 0x37 ∷ 0x33 ∷ 0x31 ∷ 0x21 ∷ 0x20 ∷ 0x1e ∷ 0x1d ∷ 0x0f ∷ 0x0e ∷ 0x0a ∷ 0x09 ∷ 0x08 ∷ 0x07 ∷ 0x06 ∷ []

-- the greatest code of a bandwidth in RegModemConfig1
abbrev pub most_code : Variant → ℕ
most_code Sx1272 = 2
most_code Sx1276 = 9
