-- `requests::faults::put_wanted` meets its contract: one text behind another.
use Rattle.text.proofs.printing.Appending.{then, same}
use Rattle.requests.proofs.faults.put_wanted.Goals as goal

pub returns-clause-appended : goal.returns-clause-appended
returns-clause-appended c = then c.put.ensures (same c.arguments.ensures.value c.put-2.ensures)
