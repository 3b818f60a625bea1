-- How many records an operation appends, where the variant, the board or an argument decides it: document 01's table.
-- `proofs/Counts.antt` has that the steps make as many.
use Rattle.std.specs.Prelude.{Bool, true, false, ℕ, zero, suc, ◌+◌}
use Rattle.sheets.specs.declared.Variant.{Variant}
use Rattle.sheets.specs.declared.Variant.TheVariants.{Sx1272, Sx1276}

abbrev pub oscillator_records : Bool → ℕ
oscillator_records true = 1
oscillator_records false = 0

abbrev pub init_records : Bool → ℕ
init_records tcxo = oscillator_records tcxo + 3

abbrev pub modem_records : Variant → ℕ
modem_records Sx1272 = 4
modem_records Sx1276 = 8

abbrev pub modulation_records : Variant → ℕ
modulation_records v = 3 + modem_records v

abbrev pub framing_records : Variant → ℕ
framing_records Sx1272 = 2
framing_records Sx1276 = 4

abbrev pub packet_records : Variant → ℕ
packet_records v = 4 + framing_records v

abbrev pub power_records : Variant → ℕ
power_records Sx1272 = 3
power_records Sx1276 = 4

abbrev pub measuring_records : Variant → ℕ
measuring_records Sx1272 = 2
measuring_records Sx1276 = 5

abbrev pub looking_records : ℕ → ℕ
looking_records zero = 1
looking_records (suc c) = 2

-- 29 on the SX1276 and 22 on the SX1272, one more with TCXO
abbrev pub program_records : Variant → Bool → ℕ
program_records v tcxo = init_records tcxo + (3 + (modulation_records v + (packet_records v + power_records v)))
