-- What is left behind the records that are held gives the whole.
use Rattle.std.proofs.Common.{◌*◌, ◌+◌, ◌≤◌, length}
use Rattle.intel_hex.proofs.Walked.{Reached}
use Rattle.intel_hex.proofs.walk.walk.Given as goal

abbrev pub invariant-loop-rest : goal.invariant-loop-rest
invariant-loop-rest l = record {
  slow : 2 * l.line + length l.rest ≤ length l.text + 2;
  reached : Reached l.text l.rest l.line l.held.places;
}

abbrev pub decreases-loop-rest : goal.decreases-loop-rest
decreases-loop-rest l = length l.rest
