-- What was put and what is left make up the whole.
use Rattle.std.proofs.Common.{◌≡◌, ◌+◌, ◌≤◌, length, drop}
use Rattle.results.specs.Results.{placed}
use Rattle.results.proofs.words.put_list.Given as goal

abbrev pub invariant-loop-i : goal.invariant-loop-i
invariant-loop-i l = record {
  within : l.i ≤ length l.words;
  left : placed (l.i + 1) (drop l.i l.words) l.results ≡ placed 1 l.words l.initial.results;
}
