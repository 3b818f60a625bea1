-- The sum of the bytes so far.
use Rattle.std.proofs.Common.{◌≡◌, ◌%◌, take}
use Rattle.intel_hex.specs.Record.{total as total_of, said}
use Rattle.intel_hex.proofs.records.Record.right_sum.Given as goal

abbrev pub invariant-loop-k : goal.invariant-loop-k
invariant-loop-k l = l.total ≡ total_of (take l.k (said l.self-inside.digits.now)) % 256
