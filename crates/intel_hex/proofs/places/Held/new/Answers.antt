-- `intel_hex::places::Held::new` meets its contract: no place is set.
use Rattle.intel_hex.proofs.Held.{empty}
use Rattle.intel_hex.proofs.places.Held.new.Goals as goal

pub returns : goal.returns
returns c = empty
