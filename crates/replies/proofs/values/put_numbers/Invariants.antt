-- `replies::values::put_numbers`: the numbers so far are written, and each is short.
use Rattle.std.proofs.Common.{◌+◌, ◌*◌, ◌≤◌, length, take}
use Rattle.params.specs.Errors.{plain}
use Rattle.text.specs.Text.{Put}
use Rattle.replies.specs.Answers.{values_text}
use Rattle.replies.proofs.values.put_numbers.Given as goal

abbrev pub invariant-loop-n : goal.invariant-loop-n
invariant-loop-n l = record {
  within : l.n-index ≤ length l.numbers;
  put : Put (values_text (plain (take l.n-index l.numbers))) l.initial.out l.out;
  short : l.out.end ≤ l.initial.out.end + 21 * l.n-index;
}
