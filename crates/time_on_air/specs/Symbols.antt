-- Time on air (SX1276 sheet, "Time on air"): a preamble lasts 4.25 symbols longer than is programmed, so quarter symbols are counted.
use Rattle.std.specs.Prelude.{◌≡◌, refl, ℕ, suc, ◌+◌, ◌*◌, ◌-◌, ◌/◌, ◌^◌, ℤ, pos, negsuc, neg_ℤ}
use Rattle.std.proofs.Math.IntN.{sub_ℕ}
use Rattle.sheets.specs.Modem.{bandwidths, optimize}
use Rattle.time_on_air.specs.declared.packet.Packet.{Packet}

-- ---- a quotient, rounded up: toward plus infinity, also of a number below 0

abbrev pub ceil : ℕ → ℕ → ℕ
ceil a b = (a + (b - 1)) / b

abbrev pub ceilℤ : ℤ → ℕ → ℤ
ceilℤ (pos a) b = pos (ceil a b)
ceilℤ (negsuc a) b = neg_ℤ (pos (suc a / b))

abbrev pub greater_of0 : ℤ → ℕ
greater_of0 (pos n) = n
greater_of0 (negsuc n) = 0

-- ---- symbols

-- 8 L - 4 SF + 28 + 16 CRC - 20 IH
unfoldable pub coded_bits : ℕ → ℕ → ℕ → ℕ → ℤ
coded_bits sf size implicit crc = sub_ℕ (8 * size + 28 + 16 * crc) (4 * sf + 20 * implicit)

-- each 4 (SF - 2 DE) bits are CR + 4 symbols
unfoldable pub coded_symbols : ℕ → ℕ → ℕ → ℤ → ℕ
coded_symbols sf de cr bits = greater_of0 (ceilℤ bits (4 * (sf - 2 * de))) * (cr + 4)

unfoldable pub quarter_symbols : Packet → ℕ
quarter_symbols p =
    let sf = p.spreading_factor in
    let bits = coded_bits sf p.length p.implicit_header p.crc_on in
    4 * p.preamble + 17 + 4 * (8 + coded_symbols sf (optimize sf p.bandwidth) p.coding_rate bits)

-- a symbol is 2^SF chips, and a second has as many chips as the bandwidth has hertz
unfoldable pub quarter_chips : Packet → ℕ
quarter_chips p = quarter_symbols p * 2 ^ p.spreading_factor

-- document 02's example: preamble 8, SF7 (here at 125 kHz), 4/5, CRC, explicit header, 10 bytes
pub worked_example : quarter_symbols (record { id = 0; spreading_factor = 7; bandwidth = 7; coding_rate = 1; preamble = 8; length = 10; implicit_header = 0; crc_on = 1 }) ≡ 161
unfolding quarter_symbols coded_symbols coded_bits optimize bandwidths
worked_example = refl

-- the same at 7.8 kHz, where a symbol lasts 16.4 ms: low data rate optimize is on
pub optimized_example : quarter_symbols (record { id = 0; spreading_factor = 7; bandwidth = 0; coding_rate = 1; preamble = 8; length = 10; implicit_header = 0; crc_on = 1 }) ≡ 181
unfolding quarter_symbols coded_symbols coded_bits optimize bandwidths
optimized_example = refl

-- 50,000 packets of SF12, 4/8, preamble 65,535 and 255 bytes (here at 7.8 kHz): 250,000 times as much fits 64 bits, and no sign beside it
pub longest : 50000 * quarter_chips (record { id = 0; spreading_factor = 12; bandwidth = 0; coding_rate = 4; preamble = 65535; length = 255; implicit_header = 0; crc_on = 1 }) ≡ 54030540800000
unfolding quarter_chips quarter_symbols coded_symbols coded_bits optimize bandwidths
longest = refl
