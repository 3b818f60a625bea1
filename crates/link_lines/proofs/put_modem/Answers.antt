-- `link_lines::put_modem` meets its contract: one line behind another.
use Rattle.text.proofs.printing.Appending.{then}
use Rattle.link_lines.proofs.put_modem.Goals as goal

pub returns-clause-appended : goal.returns-clause-appended
returns-clause-appended c = then c.put_counted.ensures.appended (then c.put_bandwidth.ensures.appended c.put_counted-2.ensures.appended)
