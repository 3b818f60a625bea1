-- Short words for the operations.
use Rattle.std.specs.Prelude.{Bool, cond, ◌||◌, List, ℕ, Option, Some, None}
use Rattle.text.specs.Words.{ascii, alike}
use Rattle.commands.specs.declared.Operation.{Operation}
use Rattle.commands.specs.declared.Operation.TheVariants.{InitLora, CreateModulationParams, CreatePacketParams, Reset, SetStandby, SetSleep, SetTxRxBufferBaseAddress, SetTxPowerAndRampTime, SetModulationParams, SetPacketParams, SetChannel, SetPayload, DoTx, DoRx, GetRxPayload, GetRxPacketStatus, DoCad, SetIrqParams, ProcessIrqEvent, SetTxContinuousWaveMode, Program, ReadLink, Airtime, WriteHex, ReadHex}
use Rattle.commands.specs.Operations.{operations, among, operation_of}

abbrev pub word : Operation → List ℕ
word InitLora = ascii "init"
word CreateModulationParams = ascii "create_modulation"
word CreatePacketParams = ascii "create_packet"
word Reset = ascii "reset"
word SetStandby = ascii "standby"
word SetSleep = ascii "sleep"
word SetTxRxBufferBaseAddress = ascii "bases"
word SetTxPowerAndRampTime = ascii "power"
word SetModulationParams = ascii "modulation"
word SetPacketParams = ascii "packet"
word SetChannel = ascii "channel"
word SetPayload = ascii "payload"
word DoTx = ascii "tx"
word DoRx = ascii "rx"
word GetRxPayload = ascii "receive"
word GetRxPacketStatus = ascii "status"
word DoCad = ascii "cad"
word SetIrqParams = ascii "irq"
word ProcessIrqEvent = ascii "event"
word SetTxContinuousWaveMode = ascii "carrier"
word Program = ascii "program"
word ReadLink = ascii "read"
word Airtime = ascii "airtime"
word WriteHex = ascii "write_hex"
word ReadHex = ascii "read_hex"

-- one name, or where it names nothing the other
abbrev pub otherwise : Option Operation → Option Operation → Option Operation
otherwise (Some o) n = Some o
otherwise None n = n

-- the word of an operation that takes a text: nothing of it goes over the bus
abbrev pub takes_text : List ℕ → Bool
takes_text w = alike w (word Airtime) || (alike w (word WriteHex) || alike w (word ReadHex))

-- by its word, or else by its own name; what takes a text is no command
unfoldable pub command_of : List ℕ → Option Operation
command_of w = cond (takes_text w) None (otherwise (among word w operations) (operation_of w))
