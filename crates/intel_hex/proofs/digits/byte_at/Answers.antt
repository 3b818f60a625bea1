-- `intel_hex::digits::byte_at` meets its contract: two digits say a byte.
use Rattle.std.proofs.Common.{arith}
use Rattle.intel_hex.proofs.Said.{said_at}
use Rattle.intel_hex.proofs.digits.byte_at.Goals as goal

pub returns : goal.returns
returns c = rw (c.worth.ensures.0, c.worth-2.ensures.0, said_at c.args.digits.now c.args.k (omega arith))
