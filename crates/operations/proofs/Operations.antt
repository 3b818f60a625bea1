-- Each operation with the count of its records, as the laws of calls want it.
-- Assumes nothing.
use Rattle.std.specs.Prelude.{Option, Result, Ok}
use mathlib.Core.Path.{refl}
use mathlib.Core.Bool.{Bool}
use mathlib.Core.List.{List}
use Prim.Native.Nat.{ℕ}
use lib.IntN.{ℤ}
use lib.ListN.{get_or}
use Rattle.sheets.specs.declared.Variant.{Variant}
use Rattle.sheets.specs.Registers.{reg_irq_flags}
use Rattle.sheets.specs.Interrupts.{event}
use Rattle.params.specs.declared.mod_params.ModulationParams.{ModulationParams}
use Rattle.params.specs.declared.mod_params.PacketParams.{PacketParams}
use Rattle.params.specs.declared.mod_params.Link.{Link}
use Rattle.params.specs.Errors.{Verdict, or}
use Rattle.params.specs.declared.board.Board.{Board}
use Rattle.params.specs.declared.mod_params.RadioError.{RadioError}
use Rattle.params.specs.declared.mod_params.RadioMode.{RadioMode}
use Rattle.params.specs.declared.mod_params.RxMode.{RxMode}
use Rattle.refusals.specs.Refusals.{flag, base_addresses, carrier, link_refusal}
use Rattle.bus.specs.Steps.{Step, Makes, Quiet}
use Rattle.bus.specs.Call.{well}
use Rattle.bus.proofs.admit.Calls.{Operation}
use Rattle.operations.specs.Setup.{initialization, bases, channel}
use Rattle.operations.specs.Modem.{modulation_refusal, modulation_steps, packet_refusal, packet_steps}
use Rattle.operations.specs.Power.{power}
use Rattle.operations.specs.Modes.{standby, sleep, resetting, transmission, detecting, reception, carrier_test, rx_refusal, rx_window, rx_op_mode}
use Rattle.operations.specs.Packets.{measuring, measured}
use Rattle.operations.specs.Interrupts.{preparing, activity_of, irq_refusal, looking, event_refusal, event_told}
use Rattle.operations.specs.Programming.{programming}
use Rattle.operations.specs.Records.{init_records, modulation_records, packet_records, power_records, measuring_records, looking_records, program_records}
use Rattle.operations.proofs.Counts as count

-- an operation that has nothing to tell
abbrev plain : Verdict → (s : List Step) (n : ℕ) → Makes s n → Quiet s → Operation
plain v s n m q = record { asked = v; tells = well; steps = s; records = n; makes = m; quiet = q }

abbrev pub init_op : Board → ℕ → Operation
init_op b public = plain (flag public) (initialization b public) (init_records b.tcxo_used) (count.init_count b.variant b.tcxo_used public)
    (count.init_quiet b.variant b.tcxo_used public)

abbrev pub bases_op : ℕ → ℕ → Operation
bases_op tx rx = plain (base_addresses tx rx) bases 2 count.bases_count (λ im. refl)

abbrev pub channel_op : ℕ → Operation
channel_op hz = plain (Ok tt) (channel hz) 3 (count.channel_count hz) (λ im. refl)

abbrev pub modulation_op : Variant → ModulationParams → Operation
modulation_op v m =
    plain (modulation_refusal v m) (modulation_steps v m) (modulation_records v)
    (count.modulation_count v m.spreading_factor m.bandwidth m.coding_rate m.low_data_rate_optimize)
    (count.modulation_quiet v m.spreading_factor m.bandwidth m.coding_rate m.low_data_rate_optimize)

abbrev pub packet_op : Variant → PacketParams → Operation
packet_op v p =
    plain (packet_refusal p) (packet_steps v p) (packet_records v)
    (count.packet_count v p.preamble_length p.implicit_header p.crc_on p.iq_inverted)
    (count.packet_quiet v p.preamble_length p.implicit_header p.crc_on p.iq_inverted)

abbrev pub power_op : Board → ℤ → ℕ → Operation
power_op b p prep = plain (flag prep) (power b.variant b.tx_boost p prep) (power_records b.variant) (count.power_count b.variant b.tx_boost p prep)
    (count.power_quiet b.variant b.tx_boost p prep)

abbrev pub standby_op : Operation
standby_op = plain (Ok tt) standby 2 count.standby_count (λ im. refl)

abbrev pub sleep_op : Operation
sleep_op = plain (Ok tt) sleep 2 count.sleep_count (λ im. refl)

abbrev pub reset_op : Operation
reset_op = plain (Ok tt) resetting 3 count.reset_count (λ im. refl)

abbrev pub tx_op : Operation
tx_op = plain (Ok tt) transmission 2 count.tx_count (λ im. refl)

abbrev pub cad_op : Bool → Operation
cad_op boost = plain (Ok tt) (detecting boost) 3 (count.cad_count boost) (λ im. refl)

abbrev pub rx_op : Bool → Result RxMode RadioError → Operation
rx_op boost m = plain (rx_refusal m) (reception boost (rx_window m) (rx_op_mode m)) 8 (count.rx_count boost (rx_window m) (rx_op_mode m)) (λ im. refl)

abbrev pub carrier_op : Variant → Operation
carrier_op v = plain (carrier v) carrier_test 6 count.carrier_count (λ im. refl)

abbrev pub status_op : Variant → List ℕ → Operation
status_op v im = record { asked = Ok tt; tells = measured v im; steps = measuring v; records = measuring_records v; makes = count.measuring_count v; quiet = count.measuring_quiet v }

abbrev pub irq_op : Result (Option RadioMode) RadioError → Operation
irq_op m = plain (irq_refusal m) (preparing (activity_of m)) 4 (count.preparing_count (activity_of m)) (λ im. refl)

abbrev pub event_op : Result (Option RadioMode) RadioError → ℕ → List ℕ → Operation
event_op m clear im = record {
  asked = or (flag clear) (event_refusal m);
  tells = event_told (event (activity_of m) (get_or im reg_irq_flags 0));
  steps = looking clear;
  records = looking_records clear;
  makes = count.looking_count clear;
  quiet = count.looking_quiet clear;
}

abbrev pub program_op : Board → Link → Operation
program_op b l =
    plain (link_refusal b.variant l) (programming b l) (program_records b.variant b.tcxo_used) (count.program_count b l) (count.program_quiet b l)
