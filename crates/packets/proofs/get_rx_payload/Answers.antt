-- `packets::get_rx_payload` meets its contract: the room that it was admitted for is left for what follows the first read.
use Rattle.std.proofs.Common.{arith}
use Rattle.std.proofs.lemmas.Grind.{common_steps}
use Rattle.bus.proofs.admit.Calls.{admitted_fifo→room}
use Rattle.packets.proofs.get_rx_payload.Goals as goal

pub unload-requires : goal.unload-requires
unload-requires c = grind (arith, common_steps, admitted_fifo→room, c.read_register-payload_length.ensures)
