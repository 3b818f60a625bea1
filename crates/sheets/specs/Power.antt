-- Transmit power in dBm (sheets: RegPaConfig, RegPaRamp, RegOcp, RegPaDac). `boost` is whether the board transmits by PA_BOOST.
use Rattle.std.specs.Prelude.{Bool, true, false, cond, ◌&&◌, ℕ, ◌+◌, ◌-◌, ℤ, pos, negsuc, nat_abs, ◌+ℤ◌, ◌-ℤ◌}
use Rattle.std.specs.Int.Bits.{bit_or}
use Rattle.std.specs.Int.Signed.{lt_z}
use Rattle.sheets.specs.declared.Variant.{Variant}
use Rattle.sheets.specs.declared.Variant.TheVariants.{Sx1272, Sx1276}
use Rattle.sheets.specs.Bits.{at}
use Rattle.sheets.specs.Registers as R

-- ---- the range of an output

abbrev pub least : Variant → Bool → ℤ
least v true = pos 2
least Sx1272 false = negsuc 0
least Sx1276 false = negsuc 3

abbrev pub most : Bool → ℤ
most true = pos 20
most false = pos 14

unfoldable pub clamped : Variant → Bool → ℤ → ℤ
clamped v boost p = cond (lt_z p (least v boost)) (least v boost) (cond (lt_z (most boost) p) (most boost) p)

-- above 17 dBm, which PA_BOOST alone has, the amplifier wants its +20 dBm setting
abbrev pub strong : Bool → ℤ → Bool
strong boost c = boost && lt_z (pos 17) c

-- ---- the registers, by the clamped power c

-- c as a byte, in two's complement
abbrev pub byte : ℤ → ℕ
byte (pos n) = n
byte (negsuc n) = 255 - n

-- SX1276, PA_BOOST: c = 17 - (15 - OutputPower), so OutputPower is c - 2; the Rust lets 16 to 18 spill out of its four bits.
-- SX1276, RFO: MaxPower 7 makes Pmax 15, and c = Pmax - (15 - OutputPower), so OutputPower is c; the Rust ors the whole byte of c,
-- so that -4 to -1 set PaSelect too.
-- SX1272, PA_BOOST: OutputPower is c - 2, or c - 5 with the +20 dBm setting. RFO: c = -1 + OutputPower.
abbrev pub outputs : Variant → Bool → ℤ → ℕ
outputs Sx1276 true c = at R.pa_select 1 + nat_abs (c -ℤ pos 2)
outputs Sx1276 false c = bit_or (at R.max_power 7) (byte c)
outputs Sx1272 true c = at R.pa_select 1 + nat_abs (c -ℤ cond (strong true c) (pos 5) (pos 2))
outputs Sx1272 false c = nat_abs (c +ℤ pos 1)

unfoldable pub pa_config : Variant → Bool → ℤ → ℕ
pa_config v boost p = outputs v boost (clamped v boost p)

unfoldable pub pa_dac : Variant → Bool → ℤ → ℕ
pa_dac v boost p = at (R.pa_dac_reserved v) 0x10 + at (R.pa_dac v) (cond (strong boost (clamped v boost p)) 7 4)

-- over current protection on: 240 mA with the +20 dBm setting, else 100 mA
unfoldable pub ocp : Bool → ℤ → ℕ
ocp boost p = at R.ocp_on 1 + at R.ocp_trim (cond (strong boost (clamped Sx1276 boost p)) 0x1b 0x0b)

-- ---- the ramp: 4 is 250 µs, 9 is 40 µs; the SX1272 sets LowPnTxPllOff beside it, its value after a reset

abbrev pub ramp_bit : Variant → ℕ
ramp_bit Sx1272 = at R.low_pn_tx_pll_off 1
ramp_bit Sx1276 = 0

abbrev pub pa_ramp : Variant → ℕ → ℕ
pa_ramp v code = ramp_bit v + at R.pa_ramp code
