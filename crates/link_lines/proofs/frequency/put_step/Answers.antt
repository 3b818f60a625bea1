-- `link_lines::frequency::put_step` meets its contract: one text behind another, each byte of the count by its own contract.
use Rattle.text.proofs.printing.Appending.{then}
use Rattle.link_lines.proofs.frequency.put_step.Goals as goal

pub returns-clause-appended : goal.returns-clause-appended
returns-clause-appended c =
    rw (← c.steps-count.ensures, ← c.frf_msb.ensures, ← c.frf_mid.ensures, ← c.frf_lsb.ensures)
    (then c.put_counted.ensures.appended (then c.put_bytes.ensures c.put.ensures))
