-- The fault of what is left is the fault of the whole.
use Rattle.std.proofs.Common.{◌≡◌, ◌-◌}
use Rattle.intel_hex.specs.Reading.{free_fault, free_in}
use Rattle.intel_hex.proofs.places.Held.free_fault.Given as goal

abbrev pub invariant-loop-a : goal.invariant-loop-a
invariant-loop-a l = free_fault l.self.places l.a (128 - l.a) ≡ free_in l.self.places
