-- `tx_power::sx1276::ocp` meets its contract: with the +20 dBm setting, or without.
use Rattle.std.proofs.Common.{w32}
use mir.ValLaws.{to_z-of_z}
use Rattle.sheets.specs.Power.{ocp}
use Rattle.tx_power.proofs.sx1276.ocp.Goals as goal

pub returns-then-strong : goal.returns-then-strong
unfolding ocp
returns-then-strong c = rw (← (rw (to_z-of_z w32 _ c.ranges.p_out) at c.if-strong.ensures))

pub returns-else-strong : goal.returns-else-strong
unfolding ocp
returns-else-strong c = rw (← (rw (to_z-of_z w32 _ c.ranges.p_out) at c.if-strong.ensures))
