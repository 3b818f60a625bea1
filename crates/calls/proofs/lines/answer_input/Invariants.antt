-- What is kept of a line is short.
use Rattle.std.proofs.Common.{◌≡◌, ◌≤◌, length}
use Rattle.calls.proofs.lines.answer_input.Given as goal

abbrev pub invariant-loop : goal.invariant-loop
invariant-loop g l = (l.kept.count ≤ 16384) × (65536 ≡ length l.buf)
