-- The records of parameters, from a C caller's numbers.
use Rattle.std.specs.Prelude.{ℕ, ℤ}
use Rattle.params.specs.declared.mod_params.ModulationParams.{ModulationParams}
use Rattle.params.specs.declared.mod_params.PacketParams.{PacketParams}
use Rattle.params.specs.declared.mod_params.Link.{Link}

-- `set_modulation_params` does not look at a frequency: 0 stands for one
abbrev pub modulation_of : ℕ → ℕ → ℕ → ℕ → ModulationParams
modulation_of sf bw cr optimize = record { spreading_factor = sf; bandwidth = bw; coding_rate = cr; low_data_rate_optimize = optimize; frequency = record { 0 = 0 } }

abbrev pub packet_of : ℕ → ℕ → ℕ → ℕ → ℕ → PacketParams
packet_of preamble implicit payload crc iq = record { preamble_length = preamble; implicit_header = implicit; payload_length = payload; crc_on = crc; iq_inverted = iq }

abbrev pub link_of : ℕ → ℕ → ℕ → ℕ → ℕ → ℕ → ℕ → ℕ → ℕ → ℤ → Link
link_of public sf bw cr hz preamble implicit crc iq power =
    record { public_network = public; spreading_factor = sf; bandwidth = bw; coding_rate = cr; frequency = record { 0 = hz }; preamble_length = preamble; implicit_header = implicit; crc_on = crc; iq_inverted = iq; power = power }
