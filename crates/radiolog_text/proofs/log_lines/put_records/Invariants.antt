-- The lines of the records so far stand there.
use Rattle.std.proofs.Common.{◌+◌, ◌*◌, ◌≤◌, take}
use Rattle.text.specs.Text.{Put}
use Rattle.radiolog_text.proofs.log_lines.Records.{records_in}
use Rattle.radiolog_text.proofs.log_lines.put_records.Given as goal

abbrev pub invariant-loop-kind : goal.invariant-loop-kind
invariant-loop-kind l = record {
  put : Put (records_in (take l.kind-index l.records)) l.initial.out l.out;
  short : l.out.end ≤ l.initial.out.end + 9 * l.kind-index;
}
