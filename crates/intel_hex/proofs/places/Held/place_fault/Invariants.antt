-- The fault of what is left is the fault of the whole.
use Rattle.std.proofs.Common.{◌≡◌, ◌+◌, ◌-◌}
use Rattle.intel_hex.specs.Reading.{taken_fault}
use Rattle.intel_hex.proofs.places.Held.place_fault.Given as goal

abbrev pub invariant-loop-a : goal.invariant-loop-a
invariant-loop-a l = taken_fault l.self.places l.a (l.first + l.count - l.a) ≡ taken_fault l.self.places l.first l.count
