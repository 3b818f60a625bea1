-- `tx_power::levels::clamped_power` meets its contract: each output has its own range.
use Rattle.std.proofs.Common.{w32}
use mir.ValLaws.{to_z-of_z}
use Rattle.sheets.specs.Power.{clamped}
use Rattle.tx_power.proofs.levels.Whole.{held}
use Rattle.tx_power.proofs.levels.clamped_power.Goals as goal

pub returns-then-tx_boost : goal.returns-then-tx_boost
unfolding clamped
returns-then-tx_boost c = rw (held c.clamp.result c.clamp.type_inv, c.if-tx_boost.true, ← to_z-of_z w32 _ c.ranges.p_out) c.clamp.ensures

pub returns-in-Sx1272 : goal.returns-in-Sx1272
unfolding clamped
returns-in-Sx1272 c = rw (held c.clamp-in-Sx1272.result c.clamp-in-Sx1272.type_inv, c.if-tx_boost.false, c.in-Sx1272.is, ← to_z-of_z w32 _ c.ranges.p_out) c.clamp-in-Sx1272.ensures

pub returns-in-Sx1276 : goal.returns-in-Sx1276
unfolding clamped
returns-in-Sx1276 c = rw (held c.clamp-in-Sx1276.result c.clamp-in-Sx1276.type_inv, c.if-tx_boost.false, c.in-Sx1276.is, ← to_z-of_z w32 _ c.ranges.p_out) c.clamp-in-Sx1276.ensures
