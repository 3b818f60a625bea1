-- Every bandwidth has some hertz.
-- Assumes nothing.
use Prim.Native.Nat.{ℕ, ◌<◌}
use native.Mathlib.Omega.{arith}
use lib.Dec.{ltb, ltb→lt}
use Rattle.sheets.specs.Modem.{bandwidths, hertz}
use Rattle.sheets.proofs.Sweep.{at}

pub some_hertz : (bw : ℕ) → bw < 10 → 0 < hertz bw
unfolding bandwidths
some_hertz bw h = ltb→lt 0 (hertz bw) (at (λ (k : ℕ). ltb 0 (hertz k)) 0 10 tt bw (omega arith) (omega arith))
