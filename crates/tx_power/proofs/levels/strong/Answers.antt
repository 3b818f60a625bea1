-- `tx_power::levels::strong` meets its contract: what the bracket gives is the definition at each power of the output.
use Rattle.std.proofs.Common.{◌≡◌, ◌<◌, ◌^◌, Bool, false, ℤ, pos, w32, SFits, to_z, of_z}
use lib.Signed.{mag, lt_z}
use mir.ValLaws.{to_z-of_z}
use Rattle.sheets.specs.declared.Variant.{Variant}
use Rattle.sheets.specs.Power.{clamped, strong}
use Rattle.tx_power.proofs.levels.Whole.{handed}
use Rattle.tx_power.proofs.levels.Setting.{told, right}
use Rattle.tx_power.proofs.levels.strong.Goals as goal

answer : (v : Variant) (boost : Bool) (p r : ℤ) → SFits w32 p → mag r < 2 ^ 31 → r ≡ clamped v boost (to_z w32 (of_z w32 p))
    → told boost (to_z w32 (of_z w32 r)) ≡ strong boost (clamped v boost p)
answer v boost p r f m e = rw (handed m (rw (to_z-of_z w32 p f) at e)) (right v boost p)

pub returns-in_default-2 : goal.returns-in_default-2
returns-in_default-2 c =
    let r = to_z w32 (of_z w32 c.clamped_power-txp.result) in
    let from_18 : lt_z r (pos 18) ≡ false = cc in
    let from_21 : lt_z r (pos 21) ≡ false = cc in
    rw c.if-tx_boost.true
    (rw (c.if-tx_boost.true, from_18, from_21) at (answer c.args.variant c.args.tx_boost c.args.p_out c.clamped_power-txp.result c.ranges.p_out c.clamped_power-txp.type_inv c.clamped_power-txp.ensures))
