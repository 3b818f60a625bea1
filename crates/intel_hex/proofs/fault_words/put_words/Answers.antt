-- `intel_hex::fault_words::put_words` meets its contract: each fault has its words.
use Rattle.intel_hex.proofs.fault_words.put_words.Goals as goal

pub returns-in-NoEnd-clause-appended : goal.returns-in-NoEnd-clause-appended
returns-in-NoEnd-clause-appended c = rw c.in-NoEnd.is c.put-in-NoEnd.ensures
