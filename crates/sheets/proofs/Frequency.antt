-- Laws of frequencies and steps, for every 32-bit frequency.
-- Assumes nothing.
use mathlib.Core.Path.{◌≡◌}
use Prim.Native.Nat.{ℕ, ◌+◌, ◌*◌, ◌%◌, ◌^◌, ◌≤◌, ◌<◌}
use native.Mathlib.Omega.{arith}
use Rattle.sheets.specs.Frequency.{steps, frf_msb, frf_mid, frf_lsb, frf, read_back, lowest, frf_limit}

-- the product and the count that the step rule works with, in 64 and in 32 bits
pub scaled_lt : (hz : ℕ) → hz < 2 ^ 32 → 256 * hz < 2 ^ 64
scaled_lt hz h = omega arith

pub steps_lt : (hz : ℕ) → hz < 2 ^ 32 → steps hz < 2 ^ 32
unfolding steps
steps_lt hz h = omega arith

-- RegFrf holds the count of every frequency below its limit, and its 24 low bits above
pub frf_bytes : (n : ℕ) → frf (frf_msb n) (frf_mid n) (frf_lsb n) ≡ n % 2 ^ 24
frf_bytes n = omega arith

pub steps_fit : (hz : ℕ) → hz < frf_limit → steps hz < 2 ^ 24
unfolding steps
steps_fit hz h = omega arith

-- three bytes hold one count alone
pub frf_lt : (a b c : ℕ) → a < 256 → b < 256 → c < 256 → frf a b c < 2 ^ 24
frf_lt a b c h k l = omega arith

pub frf_msb_lem : (a b c : ℕ) → a < 256 → b < 256 → c < 256 → (frf_msb (frf a b c) ≡ a) × (frf_mid (frf a b c) ≡ b) × (frf_lsb (frf a b c) ≡ c)
frf_msb_lem a b c h k l = omega arith

-- the truncated read-back is 0 to 62 Hz under
pub read_back_under : (hz : ℕ) → (read_back (steps hz) ≤ hz) × (hz < read_back (steps hz) + 63)
unfolding steps read_back
read_back_under hz = omega arith

-- the lowest frequency of a step has that step, and there is none below it
pub steps_lowest : (n : ℕ) → steps (lowest n) ≡ n
unfolding steps lowest
steps_lowest n = omega arith

pub lowest_least : (hz : ℕ) → lowest (steps hz) ≤ hz
unfolding steps lowest
lowest_least hz = omega arith

pub lowest_lt : (n : ℕ) → n < 2 ^ 24 → lowest n < frf_limit
unfolding lowest
lowest_lt n h = omega arith
