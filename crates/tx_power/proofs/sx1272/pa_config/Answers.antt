-- `tx_power::sx1272::pa_config` meets its contract: what each bracket gives is the definition at each power of the output.
use Rattle.std.proofs.Common.{◌≡◌, ◌<◌, ◌^◌, Bool, true, false, cond, ℕ, ℤ, pos, negsuc, w32, SFits, to_z, of_z}
use lib.Bits.{bit_or}
use lib.Signed.{mag, lt_z}
use mir.ValLaws.{to_z-of_z}
use Rattle.sheets.specs.declared.Variant.TheVariants.{Sx1272}
use Rattle.sheets.specs.Power.{clamped, outputs, pa_config}
use Rattle.tx_power.specs.Ranges.{level}
use Rattle.tx_power.proofs.levels.Whole.{handed}
use Rattle.tx_power.proofs.levels.Clamped.{same_at}
use Rattle.tx_power.proofs.sx1272.pa_config.Goals as goal
use Rattle.tx_power.proofs.sx1272.pa_config.Goals.{in_default-via-then-txp-lt18, in_default-via-else-txp-lt18+else-txp-lt21}

abbrev told : Bool → ℤ → ℕ
told true z =
    cond (lt_z z (pos 18)) (bit_or 0x80 (level (pos 2) (pos 17) z))
    (cond (lt_z z (pos 21)) (bit_or 0x80 (level (pos 5) (pos 20) z)) (bit_or 0x80 (level (pos 2) (pos 17) z)))
told false z = level (negsuc 0) (pos 14) z

right : (boost : Bool) (p : ℤ) → told boost (clamped Sx1272 boost p) ≡ pa_config Sx1272 boost p
unfolding pa_config level
right true p = same_at Sx1272 true (told true) (outputs Sx1272 true) tt p
right false p = same_at Sx1272 false (told false) (outputs Sx1272 false) tt p

-- and at what the code holds of the clamped power
answer : (boost : Bool) (p r : ℤ) → SFits w32 p → mag r < 2 ^ 31 → r ≡ clamped Sx1272 boost (to_z w32 (of_z w32 p)) → told boost (to_z w32 (of_z w32 r)) ≡ pa_config Sx1272 boost p
answer boost p r f m e = rw (handed m (rw (to_z-of_z w32 p f) at e)) (right boost p)

pub returns-in-18-to-20 : goal.returns-in-18-to-20
returns-in-18-to-20 c =
    let r = to_z w32 (of_z w32 c.clamped_power-txp.result) in
    let from_18 : lt_z r (pos 18) ≡ false = cc in
    let to_20 : lt_z r (pos 21) ≡ true = cc in
    rw (c.level.ensures, c.if-tx_boost.true)
    (rw (c.if-tx_boost.true, from_18, to_20) at (answer c.args.tx_boost c.args.p_out c.clamped_power-txp.result c.ranges.p_out c.clamped_power-txp.type_inv c.clamped_power-txp.ensures))

pub returns-in_default : goal.returns-in_default
returns-in_default c =
    let r = to_z w32 (of_z w32 c.clamped_power-txp.result) in
    let known = rw c.if-tx_boost.true at (answer c.args.tx_boost c.args.p_out c.clamped_power-txp.result c.ranges.p_out c.clamped_power-txp.type_inv c.clamped_power-txp.ensures) in
    rw (c.level-in_default.ensures, c.if-tx_boost.true)
    (elim c.in_default.branch [
      | in_default-via-then-txp-lt18 w ↦ let below_18 : lt_z r (pos 18) ≡ true = cc in rw below_18 at known
      | in_default-via-else-txp-lt18+else-txp-lt21 w ↦
          let from_18 : lt_z r (pos 18) ≡ false = cc in
          let from_21 : lt_z r (pos 21) ≡ false = cc in
          rw (from_18, from_21) at known
    ])

pub returns-else-tx_boost : goal.returns-else-tx_boost
returns-else-tx_boost c =
    rw (c.level-else-tx_boost.ensures, c.if-tx_boost.false)
    (rw c.if-tx_boost.false at (answer c.args.tx_boost c.args.p_out c.clamped_power-txp.result c.ranges.p_out c.clamped_power-txp.type_inv c.clamped_power-txp.ensures))
