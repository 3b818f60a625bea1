-- What the radio does (RegOpMode), how strongly it amplifies what it receives (RegLna), and how long it waits for a preamble.
use Rattle.std.specs.Prelude.{Bool, cond, ℕ, ◌+◌, ◌/◌, ◌%◌, min, max}
use Rattle.sheets.specs.Bits.{at}
use Rattle.sheets.specs.Registers.{long_range_mode, access_shared_reg, mode, lna_gain, lna_boost}

-- a mode of the sheets' table, in LoRa mode
abbrev pub op_mode : ℕ → ℕ
op_mode m = at long_range_mode 1 + at mode m

-- the Rust's carrier: TX with access to the FSK registers
abbrev pub carrier_mode : ℕ
carrier_mode = at long_range_mode 1 + at access_shared_reg 1 + at mode 3

-- the highest gain, with the boost where the board asks it
abbrev pub lna : Bool → ℕ
lna boost = at lna_gain 1 + at lna_boost (cond boost 3 0)

-- SymbTimeout of a single receive: 4 to 1023 symbols, by the sheets
abbrev pub window : ℕ → ℕ
window n = min 1023 (max 4 n)

-- its two high bits go to RegModemConfig2, the rest to RegSymbTimeoutLsb
abbrev pub window_msb : ℕ → ℕ
window_msb w = w / 256 % 4

abbrev pub window_lsb : ℕ → ℕ
window_lsb w = w % 256
