-- The fields so far stand there.
use Rattle.std.proofs.Common.{◌+◌, ◌*◌, ◌≤◌, take}
use Rattle.text.specs.Text.{Put}
use Rattle.link_rows.specs.Fields.{fields}
use Rattle.link_rows.proofs.fields.put_fields.Given as goal

abbrev pub invariant-loop-n : goal.invariant-loop-n
invariant-loop-n l = record {
  put : Put (fields (take l.n-index l.numbers)) l.initial.out l.out;
  short : l.out.end ≤ l.initial.out.end + 60 * l.n-index;
}
