-- `intel_hex::layout::put_layout` meets its contract: eight rows, and the end record.
use Rattle.text.proofs.printing.Appending.{then}
use Rattle.intel_hex.specs.Record.{sum_of}
use Rattle.intel_hex.specs.Layout.{layout}
use Rattle.intel_hex.proofs.layout.put_layout.Goals as goal

pub returns : goal.returns
unfolding layout sum_of
returns c = then c.put_rows.ensures.appended c.put.ensures
