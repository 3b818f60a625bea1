-- `tx_power::sx1276::pa_config` meets its contract: what each bracket gives is the definition at each power of the output.
use Rattle.std.proofs.Common.{◌≡◌, ◌<◌, ◌^◌, Bool, true, false, cond, ℕ, ℤ, pos, negsuc, w32, SFits, to_z, of_z}
use lib.Bits.{bit_or}
use lib.Signed.{mag, lt_z}
use mir.ValLaws.{to_z-of_z}
use Rattle.sheets.specs.declared.Variant.TheVariants.{Sx1276}
use Rattle.sheets.specs.Power.{clamped, outputs, pa_config}
use Rattle.tx_power.specs.Ranges.{level}
use Rattle.tx_power.proofs.levels.Whole.{handed}
use Rattle.tx_power.proofs.levels.Clamped.{same_at}
use Rattle.tx_power.proofs.sx1276.pa_config.Goals as goal
use Rattle.tx_power.proofs.sx1276.pa_config.Goals.{in_default-via-then-txp-ltminus4, in_default-via-else-txp-ltminus4+else-txp-lt0}

abbrev told : Bool → ℤ → ℕ
told true z = bit_or 0x80 (level (pos 2) (pos 20) z)
told false z =
    cond (lt_z z (negsuc 3)) (bit_or 0x70 (level (pos 0) (pos 14) z))
    (cond (lt_z z (pos 0)) (bit_or 0xfc (level (negsuc 3) (negsuc 0) z)) (bit_or 0x70 (level (pos 0) (pos 14) z)))

right : (boost : Bool) (p : ℤ) → told boost (clamped Sx1276 boost p) ≡ pa_config Sx1276 boost p
unfolding pa_config level
right true p = same_at Sx1276 true (told true) (outputs Sx1276 true) tt p
right false p = same_at Sx1276 false (told false) (outputs Sx1276 false) tt p

-- and at what the code holds of the clamped power
answer : (boost : Bool) (p r : ℤ) → SFits w32 p → mag r < 2 ^ 31 → r ≡ clamped Sx1276 boost (to_z w32 (of_z w32 p)) → told boost (to_z w32 (of_z w32 r)) ≡ pa_config Sx1276 boost p
answer boost p r f m e = rw (handed m (rw (to_z-of_z w32 p f) at e)) (right boost p)

pub returns-then-tx_boost : goal.returns-then-tx_boost
returns-then-tx_boost c =
    rw (c.level.ensures, c.if-tx_boost.true)
    (rw c.if-tx_boost.true at (answer c.args.tx_boost c.args.p_out c.clamped_power-txp.result c.ranges.p_out c.clamped_power-txp.type_inv c.clamped_power-txp.ensures))

pub returns-in-minus4-to-minus1 : goal.returns-in-minus4-to-minus1
returns-in-minus4-to-minus1 c =
    let r = to_z w32 (of_z w32 c.clamped_power-txp.result) in
    let from_minus_4 : lt_z r (negsuc 3) ≡ false = cc in
    let below_0 : lt_z r (pos 0) ≡ true = cc in
    rw (c.level-in-minus4-to-minus1.ensures, c.if-tx_boost.false)
    (rw (c.if-tx_boost.false, from_minus_4, below_0) at (answer c.args.tx_boost c.args.p_out c.clamped_power-txp.result c.ranges.p_out c.clamped_power-txp.type_inv c.clamped_power-txp.ensures))

pub returns-in_default : goal.returns-in_default
returns-in_default c =
    let r = to_z w32 (of_z w32 c.clamped_power-txp.result) in
    let known = rw c.if-tx_boost.false at (answer c.args.tx_boost c.args.p_out c.clamped_power-txp.result c.ranges.p_out c.clamped_power-txp.type_inv c.clamped_power-txp.ensures) in
    rw (c.level-in_default.ensures, c.if-tx_boost.false)
    (elim c.in_default.branch [
      | in_default-via-then-txp-ltminus4 w ↦ let below_minus_4 : lt_z r (negsuc 3) ≡ true = cc in rw below_minus_4 at known
      | in_default-via-else-txp-ltminus4+else-txp-lt0 w ↦
          let from_minus_4 : lt_z r (negsuc 3) ≡ false = cc in
          let from_0 : lt_z r (pos 0) ≡ false = cc in
          rw (from_minus_4, from_0) at known
    ])
