-- `packets::status::measure` meets its contract: reads, joined, and what follows from their bytes.
use Rattle.operations.specs.Packets.{tuned}
use Rattle.signal.proofs.Known.{offset_range}
use Rattle.signal.proofs.Signed16.{held}
use Rattle.packets.proofs.status.measure.Goals as goal

pub packet_status-requires : goal.packet_status-requires
packet_status-requires c =
    let o = c.rssi_offset-offset in
    rw (held o.result o.type_inv, o.ensures.value) (offset_range c.args.variant (tuned c.args.image.now))
