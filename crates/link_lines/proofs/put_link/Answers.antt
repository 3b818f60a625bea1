-- `link_lines::put_link` meets its contract: one line behind another.
use Rattle.std.proofs.Common.{ℤ, ◌<◌, ap, w32, rules}
use Rattle.std.proofs.lemmas.Int.{to_z-of_z}
use lib.Signed.{mag}
use Rattle.text.proofs.printing.Appending.{then, same}
use Rattle.link_lines.specs.PowerLines.{power_line}
use Rattle.link_lines.specs.Lines.{link_lines}
use Rattle.link_lines.proofs.put_link.Goals as goal

pub returns-clause-appended : goal.returns-clause-appended
unfolding link_lines
returns-clause-appended c =
    let l = c.args.l in
    let f : mag l.power < 2147483648 = search rules in
    let power = same (ap (λ (z : ℤ). power_line z) (to_z-of_z w32 l.power (record { sfits = f }))) c.put_power.ensures.appended in
    then c.put_sync.ensures.appended (then c.put_modem.ensures.appended (then c.put_packet.ensures.appended (then power c.put_pin.ensures.appended)))
