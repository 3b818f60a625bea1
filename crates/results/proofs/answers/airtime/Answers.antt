-- `results::answers::airtime` meets its contract: the totals are words already.
use Rattle.std.proofs.Common.{refl}
use Rattle.results.proofs.Placed.{plain_words}
use Rattle.results.proofs.answers.airtime.Goals as goal

pub returns-in-Ok : goal.returns-in-Ok
returns-in-Ok c = rw c.in-Ok.is (record { numbers = refl; lists = rw (plain_words c.args.totals.now) c.put.ensures })
