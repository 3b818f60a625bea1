-- `intel_hex::records::is_counted` meets its contract: the bytes are counted by their digits.
use Rattle.intel_hex.proofs.Said.{length_said}
use Rattle.intel_hex.proofs.records.is_counted.Goals as goal

pub returns-then-n-gt0 : goal.returns-then-n-gt0
returns-then-n-gt0 c = rw (length_said c.args.digits.now, c.byte_at.ensures)
