-- `intel_hex::layout::put_row` meets its contract: colon, digits, sum and LF, one behind the other.
use Rattle.std.proofs.Common.{◌≡◌}
use Rattle.text.proofs.printing.Appending.{then, same}
use Rattle.intel_hex.specs.Record.{summed}
use Rattle.intel_hex.specs.Layout.{row}
use Rattle.intel_hex.proofs.Rows.{line_parts}
use Rattle.intel_hex.proofs.layout.put_row.Goals as goal

pub returns-clause-appended : goal.returns-clause-appended
returns-clause-appended c =
    let r = row c.args.first c.args.bytes.now in
    let h : c.row_bytes-held.result ≡ summed r = c.row_bytes-held.ensures in
    let x : c.sum_of.result ≡ r.sum = rw (h, c.requires.0) at c.sum_of.ensures in
    let all = then c.put.ensures (then c.put_hex.ensures.appended (then c.put_hex-2.ensures.appended c.put-2.ensures)) in
    same (line_parts r) (rw (h, x) at all)
