-- `time_on_air::totals::totals_of` meets its contract: each total is that of its bandwidth.
use Rattle.std.proofs.Common.{get_or, min, arith}
use Rattle.std.proofs.lemmas.List.FromFn.{fill_by_all}
use Rattle.time_on_air.specs.Report.{microseconds}
use Rattle.time_on_air.specs.Onward.{most_sum, rounded}
use Rattle.time_on_air.proofs.totals.totals_of.Goals as goal

pub returns : goal.returns
unfolding rounded
returns c =
    fill_by_all (λ k. microseconds k (min (get_or c.args.sums k 0) most_sum)) c.loop-bw.totals 10 0 c.loop-bw.invariant.ten
    (λ k l. c.loop-bw.invariant.each_one k (omega arith))
