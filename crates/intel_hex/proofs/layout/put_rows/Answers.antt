-- `intel_hex::layout::put_rows` meets its contract: row after row.
use Rattle.std.proofs.Common.{◌≡◌, suc, ◌+◌, ◌*◌, ◌-◌, ◌++◌, take, drop, arith}
use Rattle.text.proofs.printing.Appending.{then, same}
use Rattle.intel_hex.specs.Layout.{row, rows, line_text, lines_text}
use Rattle.intel_hex.proofs.Rows.{row_more, all_rows}
use Rattle.intel_hex.proofs.layout.put_rows.Goals as goal

pub loop-k-preserved : goal.loop-k-preserved
loop-k-preserved c =
    let l = c.loop-k in
    let k = l.k in
    let image = c.args.image.now in
    let n : 16 * k + 16 - 16 * k ≡ 16 = omega arith in
    let z : 0 + 16 * k ≡ 16 * k = omega arith in
    let m : k + 1 ≡ suc k = omega arith in
    let one = rw n at c.put_row.ensures.appended in
    let more : lines_text (rows k 0 image) ++ line_text (row (16 * k) (take 16 (drop (16 * k) image))) ≡ lines_text (rows (suc k) 0 image) = rw z at (row_more k 0 image) in
    record {
      size = omega (arith, c.put_row.ensures.value, l.invariant.size);
      put = rw m (same more (then {t = line_text (row (16 * k) (take 16 (drop (16 * k) image)))} l.invariant.put one));
    }

pub returns-clause-appended : goal.returns-clause-appended
returns-clause-appended c = same (all_rows c.loop-k.k c.args.image.now (omega arith)) c.loop-k.invariant.put
