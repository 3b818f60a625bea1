-- Whole programming of a link: `init_lora`, `set_channel`, `set_modulation_params`, `set_packet_params`, then power with the 250 µs ramp.
use Rattle.std.specs.Prelude.{List, ◌++◌, ℕ}
use Rattle.sheets.specs.Modem.{optimize}
use Rattle.params.specs.declared.mod_params.Link.{Link}
use Rattle.params.specs.declared.board.Board.{Board}
use Rattle.refusals.specs.Refusals.{link_refusal}
use Rattle.bus.specs.Steps.{Step}
use Rattle.bus.specs.Call.{Outcome, call, well}
use Rattle.operations.specs.Setup.{initialization, channel}
use Rattle.operations.specs.Modem.{modulation, packet}
use Rattle.operations.specs.Power.{power}

-- the optimize flag is the one that `create_modulation_params` works out
abbrev pub link_modulation : Board → Link → List Step
link_modulation b l =
    modulation b.variant l.spreading_factor l.bandwidth l.coding_rate (optimize l.spreading_factor l.bandwidth)

abbrev pub link_packet : Board → Link → List Step
link_packet b l = packet b.variant l.preamble_length l.implicit_header l.crc_on l.iq_inverted

abbrev pub programming : Board → Link → List Step
programming b l =
    initialization b l.public_network ++ (channel l.frequency.0 ++ (link_modulation b l ++ (link_packet b l ++ power b.variant b.tx_boost l.power 0)))

abbrev pub program_link : Board → Link → List ℕ → List ℕ → ℕ → Outcome
program_link b l = call (link_refusal b.variant l) well (programming b l)
