-- What was answered lies in the text.
use Rattle.std.proofs.Common.{◌-◌, ◌≤◌, length}
use Rattle.calls.proofs.lines.answer_lines.Given as goal

abbrev pub invariant-loop-n : goal.invariant-loop-n
invariant-loop-n g l = l.passed.to ≤ length l.text

abbrev pub decreases-loop-n : goal.decreases-loop-n
decreases-loop-n g l = length l.text - l.passed.to
