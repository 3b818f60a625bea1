-- The operations: the name of each, its arguments' names, and what numbers they may be.
use Rattle.std.specs.Prelude.{cond, List, [], ◌∷◌, ℕ, Option, Some, None}
use Rattle.text.specs.Words.{ascii, alike}
use Rattle.commands.specs.declared.Operation.{Operation}
use Rattle.commands.specs.declared.Operation.TheVariants.{InitLora, CreateModulationParams, CreatePacketParams, Reset, SetStandby, SetSleep, SetTxRxBufferBaseAddress, SetTxPowerAndRampTime, SetModulationParams, SetPacketParams, SetChannel, SetPayload, DoTx, DoRx, GetRxPayload, GetRxPacketStatus, DoCad, SetIrqParams, ProcessIrqEvent, SetTxContinuousWaveMode, Program, ReadLink, Airtime, WriteHex, ReadHex}
use Rattle.commands.specs.declared.Name.{Name}
use Rattle.commands.specs.declared.signatures.Kind.{Kind}
use Rattle.commands.specs.declared.signatures.Kind.TheVariants.{Byte, Word, Hertz, Count, Power}

-- The largest value of a kind of argument; a power may be as far below zero too.
abbrev pub byte : ℕ
byte = 255

abbrev pub word : ℕ
word = 65535

abbrev pub hertz : ℕ
hertz = 4294967295

abbrev pub count : ℕ
count = 18446744073709551615

abbrev pub power : ℕ
power = 2147483647

abbrev pub most : Kind → ℕ
most Byte = byte
most Word = word
most Hertz = hertz
most Count = count
most Power = power

abbrev pub name : Operation → List ℕ
name InitLora = ascii "init_lora"
name CreateModulationParams = ascii "create_modulation_params"
name CreatePacketParams = ascii "create_packet_params"
name Reset = ascii "reset"
name SetStandby = ascii "set_standby"
name SetSleep = ascii "set_sleep"
name SetTxRxBufferBaseAddress = ascii "set_tx_rx_buffer_base_address"
name SetTxPowerAndRampTime = ascii "set_tx_power_and_ramp_time"
name SetModulationParams = ascii "set_modulation_params"
name SetPacketParams = ascii "set_packet_params"
name SetChannel = ascii "set_channel"
name SetPayload = ascii "set_payload"
name DoTx = ascii "do_tx"
name DoRx = ascii "do_rx"
name GetRxPayload = ascii "get_rx_payload"
name GetRxPacketStatus = ascii "get_rx_packet_status"
name DoCad = ascii "do_cad"
name SetIrqParams = ascii "set_irq_params"
name ProcessIrqEvent = ascii "process_irq_event"
name SetTxContinuousWaveMode = ascii "set_tx_continuous_wave_mode"
name Program = ascii "program"
name ReadLink = ascii "read_link"
name Airtime = ascii "airtime"
name WriteHex = ascii "write_hex"
name ReadHex = ascii "read_hex"

abbrev pub arguments : Operation → List ℕ
arguments InitLora = ascii "public"
arguments CreateModulationParams = ascii "sf bw cr hz"
arguments CreatePacketParams = ascii "preamble implicit payload_length crc iq sf"
arguments Reset = ascii "-"
arguments SetStandby = ascii "-"
arguments SetSleep = ascii "-"
arguments SetTxRxBufferBaseAddress = ascii "tx rx"
arguments SetTxPowerAndRampTime = ascii "power is_tx_prep"
arguments SetModulationParams = ascii "sf bw cr optimize"
arguments SetPacketParams = ascii "preamble implicit payload_length crc iq"
arguments SetChannel = ascii "hz"
arguments SetPayload = ascii "-"
arguments DoTx = ascii "-"
arguments DoRx = ascii "rxmode n"
arguments GetRxPayload = ascii "-"
arguments GetRxPacketStatus = ascii "-"
arguments DoCad = ascii "-"
arguments SetIrqParams = ascii "mode rxmode"
arguments ProcessIrqEvent = ascii "mode rxmode clear"
arguments SetTxContinuousWaveMode = ascii "-"
arguments Program = ascii "public sf bw cr hz preamble implicit crc iq power"
arguments ReadLink = ascii "-"
arguments Airtime = ascii "-"
arguments WriteHex = ascii "-"
arguments ReadHex = ascii "-"

abbrev pub kinds : Operation → List Kind
kinds InitLora = Byte ∷ []
kinds CreateModulationParams = Byte ∷ Byte ∷ Byte ∷ Hertz ∷ []
kinds CreatePacketParams = Word ∷ Byte ∷ Byte ∷ Byte ∷ Byte ∷ Byte ∷ []
kinds Reset = []
kinds SetStandby = []
kinds SetSleep = []
kinds SetTxRxBufferBaseAddress = Count ∷ Count ∷ []
kinds SetTxPowerAndRampTime = Power ∷ Byte ∷ []
kinds SetModulationParams = Byte ∷ Byte ∷ Byte ∷ Byte ∷ []
kinds SetPacketParams = Word ∷ Byte ∷ Byte ∷ Byte ∷ Byte ∷ []
kinds SetChannel = Hertz ∷ []
kinds SetPayload = []
kinds DoTx = []
kinds DoRx = Byte ∷ Word ∷ []
kinds GetRxPayload = []
kinds GetRxPacketStatus = []
kinds DoCad = []
kinds SetIrqParams = Byte ∷ Byte ∷ []
kinds ProcessIrqEvent = Byte ∷ Byte ∷ Byte ∷ []
kinds SetTxContinuousWaveMode = []
kinds Program = Byte ∷ Byte ∷ Byte ∷ Byte ∷ Hertz ∷ Word ∷ Byte ∷ Byte ∷ Byte ∷ Power ∷ []
kinds ReadLink = []
kinds Airtime = []
kinds WriteHex = []
kinds ReadHex = []

-- in the order in which their words are listed
unfoldable pub operations : List Operation
operations =
    Reset ∷ SetStandby ∷ SetSleep ∷ DoTx ∷ DoRx ∷ DoCad ∷ SetTxContinuousWaveMode ∷ CreatePacketParams ∷ SetPacketParams ∷ SetPayload ∷ GetRxPayload ∷ GetRxPacketStatus ∷ SetIrqParams ∷ ProcessIrqEvent ∷ InitLora ∷ SetTxRxBufferBaseAddress ∷ SetTxPowerAndRampTime ∷ CreateModulationParams ∷ SetModulationParams ∷ SetChannel ∷ Program ∷ ReadLink ∷ Airtime ∷ WriteHex ∷ ReadHex ∷ []

-- the first of some operations whose word this is
abbrev pub among : (Operation → List ℕ) → List ℕ → List Operation → Option Operation
among called w [] = None
among called w (o ∷ os) = cond (alike w (called o)) (Some o) (among called w os)

-- the first of some names whose word this is
abbrev pub found_among : List ℕ → List Name → Option Operation
found_among w [] = None
found_among w (n ∷ ns) = cond (alike w n.0.now) (Some n.1) (found_among w ns)

unfoldable pub operation_of : List ℕ → Option Operation
operation_of w = among name w operations
