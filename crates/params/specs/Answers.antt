-- Document 01's number and values for each case of an answer.
use Rattle.std.specs.Prelude.{Bool, true, false, List, [], ◌∷◌, ℕ, ℤ, pos, ⊤, Option, Some, None, Result, Ok, Err}
use Rattle.params.specs.declared.mod_params.ModulationParams.{ModulationParams}
use Rattle.params.specs.declared.mod_params.PacketParams.{PacketParams}
use Rattle.params.specs.declared.mod_params.PacketStatus.{PacketStatus}
use Rattle.params.specs.declared.mod_params.Link.{Link}
use Rattle.params.specs.declared.mod_params.RadioError.{RadioError}
use Rattle.params.specs.declared.answers.IrqState.{IrqState}
use Rattle.params.specs.declared.answers.IrqState.TheVariants.{PreambleReceived, Done, CadDone}
use Rattle.params.specs.declared.answers.BadLine.{BadLine}
use Rattle.params.specs.declared.answers.HexError.{HexError}
use Rattle.params.specs.Errors.{Told, told, plain, refusal, number_of, Verdict}
use Rattle.params.specs.LineFaults.{error_of}
use Rattle.params.specs.HexFaults.{refusal_of}

-- the values of the records that calls answer, in the order of their fields
abbrev pub modulation_values : ModulationParams → List ℤ
modulation_values m =
    pos m.spreading_factor ∷ pos m.bandwidth ∷ pos m.coding_rate ∷ pos m.low_data_rate_optimize ∷ pos m.frequency.0 ∷ []

abbrev pub packet_values : PacketParams → List ℤ
packet_values p =
    pos p.preamble_length ∷ pos p.implicit_header ∷ pos p.payload_length ∷ pos p.crc_on ∷ pos p.iq_inverted ∷ []

abbrev pub link_values : Link → List ℤ
link_values l =
    pos l.public_network ∷ pos l.spreading_factor ∷ pos l.bandwidth ∷ pos l.coding_rate ∷ pos l.frequency.0
    ∷ pos l.preamble_length ∷ pos l.implicit_header ∷ pos l.crc_on ∷ pos l.iq_inverted ∷ l.power ∷ []

abbrev pub flag_value : Bool → ℤ
flag_value true = pos 1
flag_value false = pos 0

-- 0 nothing, 1 preamble received, 2 done; after a channel check 2 and whether activity was found
abbrev pub event_values : Option IrqState → List ℤ
event_values None = pos 0 ∷ []
event_values (Some PreambleReceived) = pos 1 ∷ []
event_values (Some Done) = pos 2 ∷ []
event_values (Some (CadDone found)) = pos 2 ∷ flag_value found ∷ []

-- ---- what calls tell

-- what was answered has values; a refusal has its own
abbrev pub tells : {T : Type 0} → (T → List ℤ) → Result T RadioError → Told
tells values (Ok answered) = told 0 (values answered)
tells values (Err e) = refusal e

abbrev pub tells_done : Verdict → Told
tells_done = tells (λ done. [])

abbrev pub tells_payload : Result ℕ RadioError → Told
tells_payload = tells (λ size. pos size ∷ [])

abbrev pub tells_status : Result PacketStatus RadioError → Told
tells_status = tells (λ s. s.rssi ∷ s.snr ∷ [])

abbrev pub tells_irq : Result (Option IrqState) RadioError → Told
tells_irq = tells event_values

abbrev pub tells_modulation : Result ModulationParams RadioError → Told
tells_modulation = tells modulation_values

abbrev pub tells_packet : Result PacketParams RadioError → Told
tells_packet = tells packet_values

abbrev pub tells_link : Result Link RadioError → Told
tells_link = tells link_values

-- the totals that are lent, as the call leaves them, or the number of the first bad line
abbrev pub tells_airtime : Result ⊤ BadLine → List ℕ → Told
tells_airtime (Ok totalled) totals = told 0 (plain totals)
tells_airtime (Err bad) totals = told (number_of (error_of bad.fault)) (pos bad.line ∷ [])

-- the bytes of the text that was written
abbrev pub tells_write_hex : Result ℕ RadioError → Told
tells_write_hex = tells (λ size. pos size ∷ [])

-- a refusal's number alone: which record is bad and why is for people
abbrev pub tells_read_hex : Result ⊤ HexError → Told
tells_read_hex (Ok read) = told 0 []
tells_read_hex (Err why) = refusal (refusal_of why)
