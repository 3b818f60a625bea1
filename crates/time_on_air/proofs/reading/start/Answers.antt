-- `time_on_air::reading::start` meets its contract: read from the start, a text comes to its report (`from_start`).
use Rattle.time_on_air.specs.Onward.{comes_to}
use Rattle.time_on_air.proofs.Whole.{from_start}
use Rattle.time_on_air.proofs.reading.start.Goals as goal

pub returns : goal.returns
unfolding comes_to
returns c = from_start
