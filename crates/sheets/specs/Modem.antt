-- The LoRa modem (sheets: "LoRa Modem", RegModemConfig1 to 3): bandwidth, low data rate, detection, IQ, sync word.
-- A bandwidth is its number in the Rust's `Bandwidth` order, 0 to 9, on either variant.
use Rattle.std.specs.Prelude.{◌≡◌, refl, Bool, true, false, cond, not, List, [], ◌∷◌, ℕ, zero, suc, ◌+◌, ◌*◌, ◌^◌, eqb, ltb, get_or}
use Rattle.sheets.specs.declared.Variant.{Variant}
use Rattle.sheets.specs.declared.Variant.TheVariants.{Sx1272, Sx1276}
use Rattle.sheets.specs.Bits.{at, mask}
use Rattle.sheets.specs.Registers as R

-- ---- bandwidth

-- in Hz, as the release of lora-modulation that lora-phy 3.0.1 names rounds the sheets' kHz
unfoldable pub bandwidths : List ℕ
bandwidths = 7810 ∷ 10420 ∷ 15630 ∷ 20830 ∷ 31250 ∷ 41670 ∷ 62500 ∷ 125000 ∷ 250000 ∷ 500000 ∷ []

abbrev pub hertz : ℕ → ℕ
hertz bw = get_or bandwidths bw 0

-- stands where a variant has no code for a bandwidth
abbrev pub no_code : ℕ
no_code = 255

-- the codes of field Bw: the SX1276 has all ten, the SX1272 125, 250 and 500 kHz
unfoldable pub bandwidth_codes : Variant → List ℕ
bandwidth_codes Sx1272 = no_code ∷ no_code ∷ no_code ∷ no_code ∷ no_code ∷ no_code ∷ no_code ∷ 0 ∷ 1 ∷ 2 ∷ []
bandwidth_codes Sx1276 = 0 ∷ 1 ∷ 2 ∷ 3 ∷ 4 ∷ 5 ∷ 6 ∷ 7 ∷ 8 ∷ 9 ∷ []

abbrev pub bandwidth_code : Variant → ℕ → ℕ
bandwidth_code v bw = get_or (bandwidth_codes v) bw no_code

abbrev pub has_bandwidth : Variant → ℕ → Bool
has_bandwidth v bw = not (eqb (bandwidth_code v bw) no_code)

-- 250 and 500 kHz, codes 8 and 9, are not available in the lowest band, below 400 MHz
abbrev pub lowest_band_end : ℕ
lowest_band_end = 400000000

-- ---- low data rate optimize

-- whether a symbol lasts longer than 16 ms: it has 2^SF chips, and a second has as many as the bandwidth has hertz. Multiplied out, so
-- that nothing is rounded.
abbrev pub long_symbol : ℕ → ℕ → Bool
long_symbol sf hz = ltb (16 * hz) (1000 * 2 ^ sf)

-- at 8 kHz a symbol of SF7 lasts 16 ms, and is not longer
pub of_16_ms : long_symbol 7 8000 ≡ false
of_16_ms = refl

pub above_16_ms : long_symbol 7 7999 ≡ true
above_16_ms = refl

-- LowDataRateOptimize is on for a long symbol
unfoldable pub optimize : ℕ → ℕ → ℕ
optimize sf bw = cond (long_symbol sf (hertz bw)) 1 0

-- ---- detection: SF6 wants its own values

abbrev pub detection_optimize : ℕ → ℕ
detection_optimize sf = at R.detection_optimize (cond (eqb sf 6) 5 3)

-- the Rust keeps bits 6..3 alone, so that bit 7 becomes 0
abbrev pub detection_keeps : ℕ
detection_keeps = mask R.detection_reserved

abbrev pub detection_threshold : ℕ → ℕ
detection_threshold sf = cond (eqb sf 6) 0x0c 0x0a

-- ---- IQ: a flag is 0 or 1

-- the Rust's way: the bit of the receive path where the flag is 1, that of the transmit path, which is set after a reset, where it is 0
abbrev pub invert_iq : ℕ → ℕ
invert_iq zero = at R.invert_iq_reserved 0x13 + at R.invert_iq_tx 1
invert_iq (suc f) = at R.invert_iq_reserved 0x13 + at R.invert_iq_rx 1

abbrev pub invert_iq2 : ℕ → ℕ
invert_iq2 zero = 0x1d
invert_iq2 (suc f) = 0x19

-- ---- sync word: 0x34 for LoRaWAN's public networks, 0x12 for private ones

abbrev pub sync_word : ℕ → ℕ
sync_word zero = 0x12
sync_word (suc f) = 0x34
