-- `dump::faults::put_count` meets its contract: one text behind another.
use Rattle.text.proofs.printing.Appending.{then}
use Rattle.dump.proofs.faults.put_count.Goals as goal

pub returns-clause-appended : goal.returns-clause-appended
returns-clause-appended c = then c.put.ensures (then c.put_decimal.ensures.appended c.put-2.ensures)
