-- The bytes so far are put at their places.
use Rattle.std.proofs.Common.{ℕ, ◌-◌, get_or, Some}
use Rattle.intel_hex.proofs.Over.{Over}
use Rattle.intel_hex.proofs.places.Held.put_record.Given as goal

abbrev pub invariant-loop-i : goal.invariant-loop-i
invariant-loop-i l = Over (λ (a : ℕ). Some (get_or l.record.bytes (a - l.first) 0)) l.first l.i l.initial.self.places l.self.places
