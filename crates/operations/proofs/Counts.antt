-- How many records each operation appends, which is the growth of the log (document 01's table), and that it fills no buffer.
-- Assumes nothing.
use mathlib.Core.Path.{refl}
use mathlib.Core.Bool.{Bool, true, false}
use mathlib.Core.List.{List, ◌++◌}
use Prim.Native.Nat.{ℕ, zero, suc, ◌+◌}
use native.Mathlib.Omega.{arith}
use lib.IntN.{ℤ}
use Rattle.sheets.specs.declared.Variant.{Variant}
use Rattle.sheets.specs.declared.Variant.TheVariants.{Sx1272, Sx1276}
use Rattle.sheets.specs.Interrupts.{Activity}
use Rattle.sheets.specs.Modem.{optimize}
use Rattle.params.specs.declared.mod_params.Link.{Link}
use Rattle.params.specs.declared.board.Board.{Board}
use Rattle.bus.specs.Steps.{Makes, Quiet}
use Rattle.bus.proofs.log.Runs.{makes_then}
use Rattle.operations.specs.Records.{oscillator_records, init_records, modulation_records, framing_records, packet_records, power_records, measuring_records, looking_records, program_records}
use Rattle.operations.specs.Setup.{oscillator, network, bases, initialization, channel}
use Rattle.operations.specs.Modem.{modulation, framing, packet}
use Rattle.operations.specs.Power.{power}
use Rattle.operations.specs.Modes.{standby, sleep, resetting, transmission, detecting, reception, carrier_test}
use Rattle.operations.specs.Packets.{sending, fetching, measuring}
use Rattle.operations.specs.Interrupts.{preparing, looking}
use Rattle.operations.specs.Programming.{programming, link_modulation, link_packet}

pub oscillator_count : (v : Variant) (tcxo : Bool) → Makes (oscillator v tcxo) (oscillator_records tcxo)
oscillator_count v true im at = omega arith
oscillator_count v false im at = omega arith

pub init_count : (v : Variant) (tcxo : Bool) (public : ℕ) → Makes (oscillator v tcxo ++ (network public ++ bases)) (init_records tcxo)
init_count v true public im at = omega arith
init_count v false public im at = omega arith

pub init_quiet : (v : Variant) (tcxo : Bool) (public : ℕ) → Quiet (oscillator v tcxo ++ (network public ++ bases))
init_quiet v true public im = refl
init_quiet v false public im = refl

pub bases_count : Makes bases 2
bases_count im at = omega arith

pub channel_count : (hz : ℕ) → Makes (channel hz) 3
channel_count hz im at = omega arith

pub modulation_count : (v : Variant) (sf bw cr flag : ℕ) → Makes (modulation v sf bw cr flag) (modulation_records v)
modulation_count Sx1272 sf bw cr flag im at = omega arith
modulation_count Sx1276 sf bw cr flag im at = omega arith

pub modulation_quiet : (v : Variant) (sf bw cr flag : ℕ) → Quiet (modulation v sf bw cr flag)
modulation_quiet Sx1272 sf bw cr flag im = refl
modulation_quiet Sx1276 sf bw cr flag im = refl

pub framing_count : (v : Variant) (implicit crc : ℕ) → Makes (framing v implicit crc) (framing_records v)
framing_count Sx1272 implicit crc im at = omega arith
framing_count Sx1276 implicit crc im at = omega arith

pub packet_count : (v : Variant) (n implicit crc iq : ℕ) → Makes (packet v n implicit crc iq) (packet_records v)
packet_count Sx1272 n implicit crc iq im at = omega arith
packet_count Sx1276 n implicit crc iq im at = omega arith

pub packet_quiet : (v : Variant) (n implicit crc iq : ℕ) → Quiet (packet v n implicit crc iq)
packet_quiet Sx1272 n implicit crc iq im = refl
packet_quiet Sx1276 n implicit crc iq im = refl

pub power_count : (v : Variant) (boost : Bool) (p : ℤ) (prep : ℕ) → Makes (power v boost p prep) (power_records v)
power_count Sx1272 boost p prep im at = omega arith
power_count Sx1276 boost p prep im at = omega arith

pub power_quiet : (v : Variant) (boost : Bool) (p : ℤ) (prep : ℕ) → Quiet (power v boost p prep)
power_quiet Sx1272 boost p prep im = refl
power_quiet Sx1276 boost p prep im = refl

pub standby_count : Makes standby 2
standby_count im at = omega arith

pub sleep_count : Makes sleep 2
sleep_count im at = omega arith

pub reset_count : Makes resetting 3
reset_count im at = omega arith

pub tx_count : Makes transmission 2
tx_count im at = omega arith

pub cad_count : (boost : Bool) → Makes (detecting boost) 3
cad_count boost im at = omega arith

pub rx_count : (boost : Bool) (w m : ℕ) → Makes (reception boost w m) 8
rx_count boost w m im at = omega arith

pub carrier_count : Makes carrier_test 6
carrier_count im at = omega arith

pub sending_count : (bytes : List ℕ) → Makes (sending bytes) 4
sending_count bytes im at = omega arith

pub fetching_count : (start n : ℕ) → Makes (fetching start n) 5
fetching_count start n im at = omega arith

pub measuring_count : (v : Variant) → Makes (measuring v) (measuring_records v)
measuring_count Sx1272 im at = omega arith
measuring_count Sx1276 im at = omega arith

pub measuring_quiet : (v : Variant) → Quiet (measuring v)
measuring_quiet Sx1272 im = refl
measuring_quiet Sx1276 im = refl

pub preparing_count : (a : Activity) → Makes (preparing a) 4
preparing_count a im at = omega arith

pub looking_count : (clear : ℕ) → Makes (looking clear) (looking_records clear)
looking_count zero im at = omega arith
looking_count (suc c) im at = omega arith

pub looking_quiet : (clear : ℕ) → Quiet (looking clear)
looking_quiet zero im = refl
looking_quiet (suc c) im = refl

pub program_count : (b : Board) (l : Link) → Makes (programming b l) (program_records b.variant b.tcxo_used)
program_count b l =
    let v = b.variant in
    let framed = link_packet b l ++ power v b.tx_boost l.power 0 in
    let modulated = link_modulation b l ++ framed in
    let framing = packet_records v + power_records v in
    makes_then (initialization b l.public_network) (channel l.frequency.0 ++ modulated) (init_records b.tcxo_used) (3 + (modulation_records v + framing))
    (init_count v b.tcxo_used l.public_network)
    (makes_then (channel l.frequency.0) modulated 3 (modulation_records v + framing) (channel_count l.frequency.0)
    (makes_then (link_modulation b l) framed (modulation_records v) framing
    (modulation_count v l.spreading_factor l.bandwidth l.coding_rate (optimize l.spreading_factor l.bandwidth))
    (makes_then (link_packet b l) (power v b.tx_boost l.power 0) (packet_records v) (power_records v)
    (packet_count v l.preamble_length l.implicit_header l.crc_on l.iq_inverted)
    (power_count v b.tx_boost l.power 0))))

program_fills : (v : Variant) (tcxo : Bool) (boost rx : Bool) (l : Link)
    → Quiet (programming (record { variant = v; tcxo_used = tcxo; tx_boost = boost; rx_boost = rx }) l)
program_fills Sx1272 true boost rx l im = refl
program_fills Sx1272 false boost rx l im = refl
program_fills Sx1276 true boost rx l im = refl
program_fills Sx1276 false boost rx l im = refl

pub program_quiet : (b : Board) (l : Link) → Quiet (programming b l)
program_quiet b l = program_fills b.variant b.tcxo_used b.tx_boost b.rx_boost l
