-- Whole numbers as an i16 holds them: which fit, which are read back, and bounds that are computed over a range.
-- `mag z` is n both for n and for -(n + 1), so z is in the range of an i16 where `mag z` is below 2 ^ 15.
-- Assumes nothing.
use Rattle.std.proofs.Common.{◌≡◌, ℕ, suc, ◌+◌, ◌-◌, ◌<◌, ◌≤◌, Bool, true, false, cond, T, ltb, ℤ, pos, negsuc, ◌+ℤ◌, ◌≤ℤ◌, arith, ltb→lt, leb→le, w16, SFits, to_z, of_z}
use lib.Signed.{mag}
use mir.ValLaws.{to_z-of_z}
use Rattle.sheets.proofs.Sweep.{every, at}

-- ---- a bound, computed at each number of a range

pub below : (m n : ℕ) (f : ℕ → ℤ) → T (every (λ k. ltb (mag (f k)) m) 0 n) → (k : ℕ) → k < n → mag (f k) < m
below m n f t k h = ltb→lt (mag (f k)) m (at (λ i. ltb (mag (f i)) m) 0 n t k (omega arith) (omega arith))

-- ---- what fits

-- a number that fits is read back from its bits
pub held : (z : ℤ) → mag z < 32768 → to_z w16 (of_z w16 z) ≡ z
held z h = to_z-of_z w16 z (record { sfits = h })

-- a number from -(m + 1) to 0
pub within : (m : ℕ) (z : ℤ) → negsuc m ≤ℤ z → z ≤ℤ pos 0 → mag z < suc m
within m (pos n) l u = let h = leb→le n 0 u.le in omega arith
within m (negsuc n) l u = let h = leb→le n m l.le in omega arith

by_test : (t : Bool) (y z : ℤ) (k : ℕ) → mag y < k → mag z < k → mag (cond t y z) < k
by_test true y z k h l = h
by_test false y z k h l = l

-- the sum's bound is the sum of the bounds
pub mag_sum : (y z : ℤ) (m n : ℕ) → mag y < m → mag z < n → mag (y +ℤ z) < m + n
mag_sum (pos a) (pos b) m n h l = omega arith
mag_sum (pos a) (negsuc b) m n h l = by_test (ltb a (suc b)) (negsuc (suc b - suc a)) (pos (a - suc b)) (m + n) (omega arith) (omega arith)
mag_sum (negsuc a) (pos b) m n h l = by_test (ltb b (suc a)) (negsuc (suc a - suc b)) (pos (b - suc a)) (m + n) (omega arith) (omega arith)
mag_sum (negsuc a) (negsuc b) m n h l = omega arith

pub sum_fits : (y z : ℤ) (m n : ℕ) → mag y < m → mag z < n → m + n ≤ 32768 → SFits w16 (y +ℤ z)
sum_fits y z m n h l k = let s = mag_sum y z m n h l in record { sfits = omega arith }
