-- A packet's signal (sheets: RegPktSnrValue, RegPktRssiValue, "RSSI and SNR in LoRa Mode"), in whole dB and dBm as the Rust rounds them.
use Rattle.std.specs.Prelude.{cond, ℕ, ◌*◌, ◌/◌, ltb, ℤ, pos, negsuc, ◌+ℤ◌, ◌-ℤ◌}
use Rattle.std.specs.Int.Signed.{quot_z, le_z}
use Rattle.sheets.specs.declared.Variant.{Variant}
use Rattle.sheets.specs.declared.Variant.TheVariants.{Sx1272, Sx1276}
use Rattle.sheets.specs.Frequency.{read_back}

-- the number that a byte stands for in two's complement
abbrev pub signed : ℕ → ℤ
signed b = cond (ltb b 128) (pos b) (pos b -ℤ pos 256)

-- RegPktSnrValue counts quarter dB; the Rust rounds toward zero, so that 0xfd to 0xff are 0
abbrev pub snr : ℕ → ℤ
snr raw = quot_z (signed raw) (pos 4)

-- above this the SX1276 receives at its high-frequency port
abbrev pub mid_band_threshold : ℕ
mid_band_threshold = 525000000

-- the offset by the variant and, on the SX1276, by the truncated read-back of the count in RegFrf: -139, or -157 and -164
unfoldable pub offset : Variant → ℕ → ℤ
offset Sx1272 n = negsuc 138
offset Sx1276 n = cond (ltb mid_band_threshold (read_back n)) (negsuc 156) (negsuc 163)

-- offset + 16/15 of RegPktRssiValue, rounded down, where the SNR is not negative; offset + RegPktRssiValue + SNR where it is
unfoldable pub rssi : ℤ → ℕ → ℕ → ℤ
rssi o raw p = cond (le_z (pos 0) (snr raw)) (o +ℤ pos (16 * p / 15)) (o +ℤ pos p +ℤ snr raw)
