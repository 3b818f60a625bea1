-- What is left from a place on gives the whole.
use Rattle.std.proofs.Common.{length, ◌-◌, ◌≡◌, ◌≤◌, ℕ, List, ◌++◌, drop}
use Rattle.text.specs.Fields.{parts}
use Rattle.time_on_air.specs.Lines.{lf}
use Rattle.time_on_air.specs.Onward.{from, goes_to}
use Rattle.time_on_air.proofs.reading.read_fields.Given as goal

abbrev pub invariant-loop-at : goal.invariant-loop-at
invariant-loop-at l =
    record {
      within : l.at ≤ length l.piece;
      left : (t : List ℕ) → from l.progress (parts lf (drop l.at l.piece ++ t)) ≡ goes_to l.fn.before (l.piece ++ t);
    }

abbrev pub decreases-loop-at : goal.decreases-loop-at
decreases-loop-at l = length l.piece - l.at
