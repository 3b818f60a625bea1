-- `link_rows::put_link_fields` meets its contract: one row of fields behind another.
use Rattle.std.proofs.Common.{ℤ, ◌<◌, ap, w32, rules}
use Rattle.std.proofs.lemmas.Int.{to_z-of_z}
use lib.Signed.{mag}
use Rattle.text.proofs.printing.Appending.{then, same}
use Rattle.link_rows.specs.Rows.{last_fields}
use Rattle.link_rows.proofs.put_link_fields.Goals as goal

pub returns-clause-appended : goal.returns-clause-appended
returns-clause-appended c =
    let l = c.args.l in
    let f : mag l.power < 2147483648 = search rules in
    let last = same (ap (λ (z : ℤ). last_fields l.iq_inverted z) (to_z-of_z w32 l.power (record { sfits = f }))) c.put_last.ensures.appended in
    then c.put_modem_fields.ensures.appended (then c.put_packet_fields.ensures.appended last)
