-- `time_on_air::totals::end_line` meets its contract: what nothing refuses counts (`accepted`).
use Rattle.std.proofs.Common.{sym, ◌∙◌}
use Rattle.time_on_air.proofs.packet.Accepted.{accepted}
use Rattle.time_on_air.proofs.totals.end_line.Goals as goal

pub add-requires : goal.add-requires
add-requires c = accepted c.packet_of-p.result (sym c.packet_fault.ensures ∙ c.in_ok-packet_fault.was)
