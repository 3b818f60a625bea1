-- `create_modulation_params`, `create_packet_params`, `set_modulation_params`, `set_packet_params`.
use Rattle.std.specs.Prelude.{List, [], ◌∷◌, ◌++◌, ℕ, ◌+◌, ◌-◌, ◌/◌, ◌%◌, ℤ, pos, Ok, Err}
use Rattle.sheets.specs.declared.Variant.{Variant}
use Rattle.sheets.specs.declared.Variant.TheVariants.{Sx1272, Sx1276}
use Rattle.sheets.specs.Bits.{mask, at}
use Rattle.sheets.specs.Registers as R
use Rattle.sheets.specs.Modem.{bandwidth_code, optimize, detection_keeps, detection_optimize, detection_threshold, invert_iq, invert_iq2}
use Rattle.params.specs.declared.mod_params.ModulationParams.{ModulationParams}
use Rattle.params.specs.declared.mod_params.PacketParams.{PacketParams}
use Rattle.params.specs.Errors.{Verdict, Told, told, refusal, or}
use Rattle.refusals.specs.Refusals.{spreading_factor, bandwidth, coding_rate, flag, spreading_factor_value, bandwidth_value, bandwidth_for_frequency, header_for_spreading_factor}
use Rattle.bus.specs.Steps.{Step, Write, Modify, put_field}
use Rattle.bus.specs.Call.{Outcome, call, well}

-- ---- the records

-- what a call that appends nothing tells
abbrev pub tells_unless : Verdict → List ℤ → Told
tells_unless (Ok tt) vs = told 0 vs
tells_unless (Err e) vs = refusal e

-- 8 for each code, then 14 and 15
abbrev pub modulation_named : ℕ → ℕ → ℕ → Verdict
modulation_named sf bw cr = or (spreading_factor sf) (or (bandwidth bw) (coding_rate cr))

abbrev pub modulation_had : Variant → ℕ → ℕ → Verdict
modulation_had v sf bw = or (spreading_factor_value sf) (bandwidth_value v bw)

abbrev pub create_modulation : Variant → ℕ → ℕ → ℕ → ℕ → Told
create_modulation v sf bw cr hz =
    tells_unless (or (modulation_named sf bw cr) (or (modulation_had v sf bw) (bandwidth_for_frequency bw hz)))
    (pos sf ∷ pos bw ∷ pos cr ∷ pos (optimize sf bw) ∷ pos hz ∷ [])

-- 8 for each flag
abbrev pub packet_named : ℕ → ℕ → ℕ → Verdict
packet_named implicit crc iq = or (flag implicit) (or (flag crc) (flag iq))

abbrev pub create_packet : ℕ → ℕ → ℕ → ℕ → ℕ → ℕ → Told
create_packet preamble implicit payload crc iq sf =
    tells_unless (or (packet_named implicit crc iq) (or (spreading_factor sf) (header_for_spreading_factor sf implicit)))
    (pos preamble ∷ pos implicit ∷ pos payload ∷ pos crc ∷ pos iq ∷ [])

-- ---- modulation

abbrev pub detection : ℕ → List Step
detection sf = Modify R.reg_detection_optimize detection_keeps (detection_optimize sf) ∷ Write R.reg_detection_threshold (detection_threshold sf) ∷ []

-- SX1276: a field at a time; the optimize flag with AgcAutoOn cleared.
-- SX1272: RegModemConfig1 keeps header and CRC alone.
abbrev pub modem : Variant → ℕ → ℕ → ℕ → ℕ → List Step
modem Sx1276 sf code cr flag =
    put_field R.spreading_factor sf ∷ put_field (R.bw Sx1276) code ∷ put_field (R.coding_rate Sx1276) cr
    ∷ Modify R.reg_modem_config3 (255 - (mask (R.low_data_rate_optimize Sx1276) + mask (R.agc_auto_on Sx1276))) (at (R.low_data_rate_optimize Sx1276) flag) ∷ []
modem Sx1272 sf code cr flag =
    Modify R.reg_modem_config1 (mask (R.implicit_header_mode_on Sx1272) + mask (R.rx_payload_crc_on Sx1272))
    (at (R.bw Sx1272) code + at (R.coding_rate Sx1272) cr + at (R.low_data_rate_optimize Sx1272) flag)
    ∷ put_field R.spreading_factor sf ∷ []

abbrev pub modulation : Variant → ℕ → ℕ → ℕ → ℕ → List Step
modulation v sf bw cr flag = detection sf ++ modem v sf (bandwidth_code v bw) cr flag

-- ---- packets

abbrev pub preamble : ℕ → List Step
preamble n = Write R.reg_preamble_msb (n / 256) ∷ Write R.reg_preamble_lsb (n % 256) ∷ []

abbrev pub framing : Variant → ℕ → ℕ → List Step
framing Sx1276 implicit crc = put_field (R.implicit_header_mode_on Sx1276) implicit ∷ put_field (R.rx_payload_crc_on Sx1276) crc ∷ []
framing Sx1272 implicit crc =
    Modify R.reg_modem_config1 (255 - (mask (R.implicit_header_mode_on Sx1272) + mask (R.rx_payload_crc_on Sx1272)))
    (at (R.implicit_header_mode_on Sx1272) implicit + at (R.rx_payload_crc_on Sx1272) crc) ∷ []

abbrev pub inversion : ℕ → List Step
inversion iq = Write R.reg_invertiq (invert_iq iq) ∷ Write R.reg_invertiq2 (invert_iq2 iq) ∷ []

abbrev pub packet : Variant → ℕ → ℕ → ℕ → ℕ → List Step
packet v n implicit crc iq = preamble n ++ (framing v implicit crc ++ inversion iq)

-- ---- the calls

abbrev pub modulation_refusal : Variant → ModulationParams → Verdict
modulation_refusal v m =
    or (modulation_named m.spreading_factor m.bandwidth m.coding_rate)
    (or (flag m.low_data_rate_optimize) (modulation_had v m.spreading_factor m.bandwidth))

abbrev pub modulation_steps : Variant → ModulationParams → List Step
modulation_steps v m = modulation v m.spreading_factor m.bandwidth m.coding_rate m.low_data_rate_optimize

abbrev pub set_modulation : Variant → ModulationParams → List ℕ → List ℕ → ℕ → Outcome
set_modulation v m = call (modulation_refusal v m) well (modulation_steps v m)

abbrev pub packet_refusal : PacketParams → Verdict
packet_refusal p = packet_named p.implicit_header p.crc_on p.iq_inverted

-- `payload_length` reaches no register here
abbrev pub packet_steps : Variant → PacketParams → List Step
packet_steps v p = packet v p.preamble_length p.implicit_header p.crc_on p.iq_inverted

abbrev pub set_packet : Variant → PacketParams → List ℕ → List ℕ → ℕ → Outcome
set_packet v p = call (packet_refusal p) well (packet_steps v p)
