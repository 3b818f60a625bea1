-- `tx_power::levels::level` meets its contract: a power that is held to a range of at most 256 lies at most 255 above its least.
use Rattle.std.proofs.Common.{◌≡◌, ◌<◌, ◌^◌, arith, ℤ, pos, ◌-ℤ◌, w32, SFits, to_z, of_z}
use lib.Signed.{mag}
use mir.ValLaws.{to_z-of_z, to_z_pos}
use Rattle.tx_power.specs.Ranges.{bounded, level}
use Rattle.tx_power.proofs.levels.Whole.{held, Above, above_is}
use Rattle.tx_power.proofs.levels.Clamped.{bounded_above}
use Rattle.tx_power.proofs.levels.level.Goals as goal

-- the difference that the code takes is how far the held power r lies above the least
difference : (p low high r : ℤ) → SFits w32 p → SFits w32 low → SFits w32 high → mag r < 2 ^ 31
    → r ≡ bounded (to_z w32 (of_z w32 low)) (to_z w32 (of_z w32 high)) (to_z w32 (of_z w32 p)) → (far : Above low (bounded low high p) 255)
    → to_z w32 (of_z w32 (to_z w32 (of_z w32 r) -ℤ to_z w32 (of_z w32 low))) ≡ pos far.by
difference p low high r f g h m e far =
    let clamped : r ≡ bounded low high p = rw (to_z-of_z w32 low g, to_z-of_z w32 high h, to_z-of_z w32 p f) at e in
    let small = far.most in
    rw (to_z-of_z w32 low g, held r m, clamped, far.is, above_is low far.by) (to_z_pos w32 far.by (omega arith))

pub overflow_cast-result : goal.overflow_cast-result
overflow_cast-result c =
    let far = bounded_above c.args.least c.args.most c.args.p c.requires.0 255 c.requires.1 in
    let small = far.most in
    rw (difference c.args.p c.args.least c.args.most c.clamp-txp.result c.ranges.p c.ranges.least c.ranges.most c.clamp-txp.type_inv c.clamp-txp.ensures far)
    (tt, record { fits = omega arith })

pub returns : goal.returns
unfolding level
returns c =
    let far = bounded_above c.args.least c.args.most c.args.p c.requires.0 255 c.requires.1 in
    rw (difference c.args.p c.args.least c.args.most c.clamp-txp.result c.ranges.p c.ranges.least c.ranges.most c.clamp-txp.type_inv c.clamp-txp.ensures far, far.is, above_is c.args.least far.by)
