-- Bits beside a mask: what writing them again does, and what a reader sees of them.
-- Assumes nothing.
use mathlib.Core.Path.{◌≡◌, ap}
use Prim.Native.Nat.{ℕ, ◌+◌, ◌-◌, ◌<◌}
use native.Mathlib.Omega.{arith}
use lib.Bits.{bit_and, bit_or, and_comm, and_self, and_zero_r, and_le_l, or_disjoint}
use Rattle.sheets.specs.Bits.{replaced}
use Rattle.sheets.proofs.Bits.{and_assoc, kept_seen}

-- bits n that are clear of the mask m, beside what it keeps of v
module _ (m n v : ℕ) (clear : bit_and m n ≡ 0) where
  sum : replaced m n v ≡ bit_and m v + n
  sum = or_disjoint (bit_and m v) n (rw (and_comm m v, and_assoc v m n, clear) (and_zero_r v))

  -- to write them again changes nothing
  pub again : replaced m n (replaced m n v) ≡ replaced m n v
  again = ap (λ (k : ℕ). bit_or k n) (kept_seen m n v m (and_self m) clear)

  -- where to write them changes nothing, the byte without what the mask keeps is they
  pub rest : replaced m n v ≡ v → v - bit_and m v ≡ n
  rest e = omega (arith, sum)

  pub in_byte : m + n < 256 → replaced m n v < 256
  in_byte h = omega (arith, sum, and_le_l m v)
