-- How much a packet's time can be.
-- Assumes nothing.
use mathlib.Core.Bool.{true, false}
use lib.Dec.{ltb}
use Prim.Native.Nat.{ℕ, zero, suc, ◌≤◌, ◌+◌, ◌*◌, ◌-◌, ◌/◌, ◌^◌}
use native.Mathlib.Nat.{div-eq_of_lt, div-le_self, mul-le-mul, le_trans}
use native.Mathlib.Omega.{arith}
use borrow.Author.Tests.{ltb-true}
use mathlib.Core.Path.{◌≡◌, refl}
use mathlib.Core.Logic.{⊎_elim}
use lib.IntN.{ℤ, pos, negsuc, neg_ℤ, sub_ℕ}
use lib.Pow.{pow_mono}
use Rattle.text.proofs.reading.Tests.{decided}
use Rattle.sheets.specs.Modem.{optimize}
use Rattle.sheets.proofs.Modem.{optimize_le}
use Rattle.time_on_air.specs.declared.packet.Packet.{Packet}
use Rattle.time_on_air.specs.Packet.{Counts}
use Rattle.time_on_air.specs.Symbols.{ceil, greater_of0, coded_bits, coded_symbols, quarter_symbols, quarter_chips}

-- a number below 0 makes no symbols: its quotient, rounded up, is at most 0
none_above : (m : ℕ) → greater_of0 (neg_ℤ (pos m)) ≡ 0
none_above zero = refl
none_above (suc m) = refl

pub above_zero : (sf de cr : ℕ) (bits : ℤ) → 6 ≤ sf → de ≤ 1 → coded_symbols sf de cr bits ≡ coded_symbols sf de cr (pos (greater_of0 bits))
unfolding coded_symbols
above_zero sf de cr (pos n) h k = refl
above_zero sf de cr (negsuc n) h k =
    let g = 4 * (sf - 2 * de) in
    let e : ceil 0 g ≡ 0 = div-eq_of_lt (omega arith) in
    rw (none_above (suc n / g), e)

pub difference : (a b : ℕ) → greater_of0 (sub_ℕ a b) ≡ a - b
difference a b =
    ⊎_elim
    (λ (e : ltb a b ≡ true). let h = ltb-true a b e in rw e (omega arith))
    (λ (e : ltb a b ≡ false). rw e)
    (decided (ltb a b))

pub bits_bound : (sf size implicit crc : ℕ) → size ≤ 255 → crc ≤ 1 → greater_of0 (coded_bits sf size implicit crc) ≤ 2084
unfolding coded_bits
bits_bound sf size implicit crc h k =
    rw (difference (8 * size + 28 + 16 * crc) (4 * sf + 20 * implicit)) (omega arith)

pub groups_bound : (a b : ℕ) → a ≤ 2084 → b ≤ 48 → ceil a b ≤ 2131
groups_bound a b h k = le_trans (div-le_self (a + (b - 1)) b) (omega arith)

pub coded_bound : (sf de cr bits : ℕ) → sf ≤ 12 → cr ≤ 4 → bits ≤ 2084 → coded_symbols sf de cr (pos bits) ≤ 17048
unfolding coded_symbols
coded_bound sf de cr bits h k l =
    mul-le-mul {n₁ = ceil bits (4 * (sf - 2 * de))} {m₁ = cr + 4} {n₂ = 2131} {m₂ = 8} (groups_bound bits (4 * (sf - 2 * de)) l (omega arith)) (omega arith)

module _ (p : Packet) (c : Counts p) where
  pub symbols_bound : quarter_symbols p ≤ 330381
  unfolding quarter_symbols
  symbols_bound =
      let sf = p.spreading_factor in
      let de = optimize sf p.bandwidth in
      let bits = coded_bits sf p.length p.implicit_header p.crc_on in
      let d : coded_symbols sf de p.coding_rate bits ≤ 17048 =
      rw (above_zero sf de p.coding_rate bits c.sf_low (optimize_le sf p.bandwidth))
      (coded_bound sf de p.coding_rate (greater_of0 bits) c.sf_high c.coding (bits_bound sf p.length p.implicit_header p.crc_on c.size c.crc)) in
      let e : p.preamble ≤ 65535 = c.preamble in
      omega arith

  pub chips_bound : quarter_chips p ≤ 1353240576
  unfolding quarter_chips
  chips_bound =
      mul-le-mul {n₁ = quarter_symbols p} {m₁ = 2 ^ p.spreading_factor} {n₂ = 330381} {m₂ = 4096} symbols_bound (pow_mono c.sf_high)
