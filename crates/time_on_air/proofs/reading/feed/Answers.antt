-- `time_on_air::reading::feed` meets its contract: a reading with a bad line stays as it is.
use Rattle.time_on_air.specs.Onward.{comes_to}
use Rattle.time_on_air.proofs.reading.feed.Goals as goal

pub returns-in-Ok : goal.returns-in-Ok
unfolding comes_to
returns-in-Ok c = λ t. rw c.in-Ok.is (c.read_fields.ensures t)

pub returns-in-Err : goal.returns-in-Err
unfolding comes_to
returns-in-Err c = λ t. rw c.in-Err.is
