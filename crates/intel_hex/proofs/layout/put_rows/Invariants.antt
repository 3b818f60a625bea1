-- So many rows are written.
use Rattle.std.proofs.Common.{◌≡◌, ◌+◌, ◌*◌}
use Rattle.text.specs.Text.{Put}
use Rattle.intel_hex.specs.Layout.{rows, lines_text}
use Rattle.intel_hex.proofs.layout.put_rows.Given as goal

abbrev pub invariant-loop-k : goal.invariant-loop-k
invariant-loop-k l = record {
  size : l.out.end ≡ l.initial.out.end + 44 * l.k;
  put : Put (lines_text (rows l.k 0 l.image)) l.initial.out l.out;
}
