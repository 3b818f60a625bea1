-- The sum of the bytes so far.
use Rattle.std.proofs.Common.{◌≡◌, ◌%◌, take}
use Rattle.intel_hex.specs.Record.{total as total_of}
use Rattle.intel_hex.proofs.layout.sum_of.Given as goal

abbrev pub invariant-loop-b : goal.invariant-loop-b
invariant-loop-b l = l.total ≡ total_of (take l.b-index l.bytes) % 256
