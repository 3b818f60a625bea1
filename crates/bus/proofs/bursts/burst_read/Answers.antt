-- `bus::bursts::burst_read` meets its contract: one byte more of a burst, and at the end all of it.
use Rattle.std.proofs.Common.{◌<◌, length, ◌∙◌, arith, rules}
use Rattle.bus.proofs.bursts.Burst.{read_step}
use Rattle.bus.proofs.bursts.burst_read.Goals as goal

pub loop-place-preserved : goal.loop-place-preserved
loop-place-preserved c =
    let in_count : c.loop-place.place-index < c.args.count = omega arith in
    let in_items : c.loop-place.place-index < length c.loop-place.place-items = omega arith in
    record {
      size = search rules;
      place = search rules;
      left = rw c.next-from.ensures (read_step _ _ _ _ _ in_count in_items ∙ c.loop-place.invariant.left);
    }
