-- The numbers so far stand there.
use Rattle.std.proofs.Common.{◌+◌, ◌*◌, ◌≤◌, take}
use Rattle.text.specs.Text.{Put}
use Rattle.airtime.specs.Texts.{each_text}
use Rattle.airtime.proofs.texts.put_each.Given as goal

abbrev pub invariant-loop-total : goal.invariant-loop-total
invariant-loop-total l = record {
  put : Put (each_text l.before l.after (take l.total-index l.totals)) l.initial.out l.out;
  short : l.out.end ≤ l.initial.out.end + 21 * l.total-index;
}
