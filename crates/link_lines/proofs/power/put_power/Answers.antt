-- `link_lines::power::put_power` meets its contract: one text behind another.
use Rattle.std.proofs.Common.{ap, w32}
use Rattle.std.proofs.lemmas.Int.{to_z-of_z}
use Rattle.text.proofs.printing.Appending.{then, same}
use Rattle.text.specs.Numbers.{signed}
use Rattle.link_lines.proofs.power.put_power.Goals as goal

pub returns-clause-appended : goal.returns-clause-appended
returns-clause-appended c =
    then c.put.ensures (then (same (ap signed (to_z-of_z w32 c.args.power c.ranges.power)) c.put_signed.ensures.appended) c.put-2.ensures)
