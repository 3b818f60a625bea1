-- The totals so far.
use Rattle.std.proofs.Common.{◌≡◌, ℕ, ◌<◌, length, get_or, min}
use Rattle.time_on_air.specs.Report.{microseconds}
use Rattle.time_on_air.specs.Onward.{most_sum}
use Rattle.time_on_air.proofs.totals.totals_of.Given as goal

abbrev pub invariant-loop-bw : goal.invariant-loop-bw
invariant-loop-bw l =
    record {
      ten : length l.totals ≡ 10;
      each_one : (k : ℕ) → k < l.bw → get_or l.totals k 0 ≡ microseconds k (min (get_or l.sums k 0) most_sum);
    }
