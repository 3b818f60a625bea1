-- The bytes so far are shown.
use Rattle.std.proofs.Common.{◌≡◌, ℕ, ◌<◌, length, get_or}
use Rattle.intel_hex.specs.Reading.{shown}
use Rattle.intel_hex.proofs.places.Held.show.Given as goal

abbrev pub invariant-loop-i : goal.invariant-loop-i
invariant-loop-i l = record {
  size : length l.image ≡ 128;
  bytes : (k : ℕ) → k < l.i → get_or l.image k 0 ≡ get_or (shown l.self.places) k 0;
}
