-- The call that an operation's name and arguments ask. Arguments stand in a text, in the operation's order, parted by a byte.
use Rattle.std.specs.Prelude.{List, [], ℕ}
use Rattle.sheets.specs.declared.Variant.{Variant}
use Rattle.params.specs.Errors.{Told}
use Rattle.params.specs.declared.board.Board.{Board}
use Rattle.bus.specs.Call.{Outcome, well}
use Rattle.operations.specs.Setup.{init_lora, set_bases, set_channel}
use Rattle.operations.specs.Modes.{reset, set_standby, set_sleep, do_tx, do_cad, do_rx, set_carrier}
use Rattle.operations.specs.Power.{set_power}
use Rattle.operations.specs.Modem.{create_modulation, create_packet, set_modulation, set_packet}
use Rattle.operations.specs.Programming.{program_link}
use Rattle.operations.specs.Interrupts.{set_irq, process_irq}
use Rattle.commands.specs.declared.Operation.{Operation}
use Rattle.commands.specs.declared.Operation.TheVariants.{InitLora, CreateModulationParams, CreatePacketParams, Reset, SetStandby, SetSleep, SetTxRxBufferBaseAddress, SetTxPowerAndRampTime, SetModulationParams, SetPacketParams, SetChannel, SetPayload, DoTx, DoRx, GetRxPayload, GetRxPacketStatus, DoCad, SetIrqParams, ProcessIrqEvent, SetTxContinuousWaveMode, Program, ReadLink, Airtime, WriteHex, ReadHex}
use Rattle.commands.specs.Operations.{byte, word, hertz, count}
use Rattle.commands.specs.Arguments.{argument, signed_argument}
use Rattle.commands.specs.Records.{modulation, packet, link}

abbrev pub modulation_created : Variant → ℕ → List ℕ → Told
modulation_created v parting s =
    create_modulation v (argument byte parting s 0) (argument byte parting s 1) (argument byte parting s 2) (argument hertz parting s 3)

abbrev pub packet_created : ℕ → List ℕ → Told
packet_created parting s =
    create_packet (argument word parting s 0) (argument byte parting s 1) (argument byte parting s 2) (argument byte parting s 3)
    (argument byte parting s 4) (argument byte parting s 5)

abbrev pub event : ℕ → List ℕ → List ℕ → List ℕ → ℕ → Outcome
event parting s = process_irq (argument byte parting s 0) (argument byte parting s 1) (argument byte parting s 2)

-- a call that changes nothing
abbrev pub idle : List ℕ → List ℕ → ℕ → Outcome
idle im log used = record { tells = well; used = used; image = im; fifo = []; log = log; buffer = [] }

-- of the operations that are lent an image and a log, and are done or refused; the others change nothing here
unfoldable pub done : Operation → ℕ → List ℕ → Board → List ℕ → List ℕ → ℕ → Outcome
done InitLora parting s board = init_lora board (argument byte parting s 0)
done CreateModulationParams parting s board = idle
done CreatePacketParams parting s board = idle
done Reset parting s board = reset
done SetStandby parting s board = set_standby
done SetSleep parting s board = set_sleep
done SetTxRxBufferBaseAddress parting s board = set_bases (argument count parting s 0) (argument count parting s 1)
done SetTxPowerAndRampTime parting s board = set_power board (signed_argument parting s 0) (argument byte parting s 1)
done SetModulationParams parting s board = set_modulation board.variant (modulation parting s)
done SetPacketParams parting s board = set_packet board.variant (packet parting s)
done SetChannel parting s board = set_channel (argument hertz parting s 0)
done SetPayload parting s board = idle
done DoTx parting s board = do_tx
done DoRx parting s board = do_rx board.rx_boost (argument byte parting s 0) (argument word parting s 1)
done GetRxPayload parting s board = idle
done GetRxPacketStatus parting s board = idle
done DoCad parting s board = do_cad board.rx_boost
done SetIrqParams parting s board = set_irq (argument byte parting s 0) (argument byte parting s 1)
done ProcessIrqEvent parting s board = idle
done SetTxContinuousWaveMode parting s board = set_carrier board.variant
done Program parting s board = program_link board (link parting s)
done ReadLink parting s board = idle
done Airtime parting s board = idle
done WriteHex parting s board = idle
done ReadHex parting s board = idle
