-- Powers held to a range.
use Rattle.std.specs.Prelude.{Bool, cond, ℕ, ℤ, nat_abs, ◌-ℤ◌, ◌≤ℤ◌}
use Rattle.std.specs.Int.Signed.{lt_z}
use Rattle.sheets.specs.declared.Variant.{Variant}
use Rattle.sheets.specs.Power.{least, most}

-- p, or the end of the range that it lies beyond
abbrev pub bounded : ℤ → ℤ → ℤ → ℤ
bounded low high p = cond (lt_z p low) low (cond (lt_z high p) high p)

-- how many dB p, so bounded, lies above the low end
unfoldable pub level : ℤ → ℤ → ℤ → ℕ
level low high p = nat_abs (bounded low high p -ℤ low)

-- c lies in the range of an output
abbrev pub InRange : Variant → Bool → ℤ → Type 0
InRange v boost c = (least v boost ≤ℤ c) × (c ≤ℤ most boost)
