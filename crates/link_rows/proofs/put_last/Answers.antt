-- `link_rows::put_last` meets its contract: one text behind another.
use Rattle.std.proofs.Common.{ap, w32}
use Rattle.std.proofs.lemmas.Int.{to_z-of_z}
use Rattle.text.proofs.printing.Appending.{then, same}
use Rattle.text.specs.Numbers.{signed}
use Rattle.link_rows.proofs.put_last.Goals as goal

pub returns-clause-appended : goal.returns-clause-appended
returns-clause-appended c =
    let number = same (ap signed (to_z-of_z w32 c.args.power c.ranges.power)) c.put_signed.ensures.appended in
    then (rw c.from.ensures at c.put_field.ensures.appended) (then c.put.ensures (then number c.put-2.ensures))
