-- What is known of a packet's signal: document 01's case of an SNR just below zero, and the range of the offset.
-- Assumes nothing.
use Rattle.std.proofs.Common.{◌≡◌, ℕ, ◌*◌, ◌/◌, ◌<◌, ◌≤◌, Bool, true, false, cond, ltb, ℤ, pos, negsuc, ◌+ℤ◌, ◌≤ℤ◌, arith}
use lib.Signed.{le_z_yes}
use Rattle.sheets.specs.declared.Variant.{Variant}
use Rattle.sheets.specs.declared.Variant.TheVariants.{Sx1272, Sx1276}
use Rattle.sheets.specs.Frequency.{read_back}
use Rattle.sheets.specs.Signal.{mid_band_threshold, snr, offset, rssi}
use Rattle.sheets.proofs.Sweep.{agree}

-- 0xfd to 0xff: less than a whole dB below zero counts as zero
pub snr_near_zero : (raw : ℕ) → 0xfd ≤ raw → raw < 256 → snr raw ≡ pos 0
snr_near_zero raw h l = agree 0xfd 3 snr (λ k. pos 0) tt raw (omega arith) (omega arith)

pub rssi_near_zero : (o : ℤ) (raw p : ℕ) → 0xfd ≤ raw → raw < 256 → rssi o raw p ≡ o +ℤ pos (16 * p / 15)
unfolding rssi
rssi_near_zero o raw p h l = rw (snr_near_zero raw h l)

-- from -200 to 0, as `packet_status` asks of the offset
abbrev pub InRange : ℤ → Type 0
InRange o = (negsuc 199 ≤ℤ o) × (o ≤ℤ pos 0)

pub offset_range : (v : Variant) (n : ℕ) → InRange (offset v n)
unfolding offset
offset_range Sx1272 n = (le_z_yes tt, le_z_yes tt)
offset_range Sx1276 n = ports (ltb mid_band_threshold (read_back n))
  where
    ports : (high : Bool) → InRange (cond high (negsuc 156) (negsuc 163))
    ports true = (le_z_yes tt, le_z_yes tt)
    ports false = (le_z_yes tt, le_z_yes tt)
