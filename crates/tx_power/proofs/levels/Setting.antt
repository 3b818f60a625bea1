-- The bracket of 18 to 20 dBm has the powers that are strong, at each power of the output.
-- Assumes nothing.
use mathlib.Core.Path.{◌≡◌}
use mathlib.Core.Bool.{Bool, true, false, cond}
use lib.IntN.{ℤ, pos}
use lib.Signed.{lt_z}
use Rattle.sheets.specs.declared.Variant.{Variant}
use Rattle.sheets.specs.Power.{clamped, strong}
use Rattle.sheets.proofs.Sweep.{same, same→eq}
use Rattle.tx_power.proofs.levels.Clamped.{at_clamped}

abbrev pub told : Bool → ℤ → Bool
told true c = cond (lt_z c (pos 18)) false (cond (lt_z c (pos 21)) true false)
told false c = false

pub right : (v : Variant) (boost : Bool) (p : ℤ) → told boost (clamped v boost p) ≡ strong boost (clamped v boost p)
right v boost p = same→eq _ _ (at_clamped (λ w b c. same (told b c) (strong b c)) tt tt tt tt v boost p)
