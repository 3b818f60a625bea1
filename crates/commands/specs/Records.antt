-- The records that arguments say. Arguments stand in a text, in the operation's order, parted by a byte.
use Rattle.std.specs.Prelude.{List, ℕ}
use Rattle.params.specs.declared.mod_params.ModulationParams.{ModulationParams}
use Rattle.params.specs.declared.mod_params.PacketParams.{PacketParams}
use Rattle.params.specs.declared.mod_params.Link.{Link}
use Rattle.commands.specs.Operations.{byte, word, hertz}
use Rattle.commands.specs.Arguments.{argument, signed_argument}

-- `set_modulation_params` does not look at a frequency: 0 stands for one
abbrev pub modulation : ℕ → List ℕ → ModulationParams
modulation parting s =
    record {
      spreading_factor = argument byte parting s 0;
      bandwidth = argument byte parting s 1;
      coding_rate = argument byte parting s 2;
      low_data_rate_optimize = argument byte parting s 3;
      frequency = record { 0 = 0 };
    }

abbrev pub packet : ℕ → List ℕ → PacketParams
packet parting s =
    record {
      preamble_length = argument word parting s 0;
      implicit_header = argument byte parting s 1;
      payload_length = argument byte parting s 2;
      crc_on = argument byte parting s 3;
      iq_inverted = argument byte parting s 4;
    }

abbrev pub link : ℕ → List ℕ → Link
link parting s =
    record {
      public_network = argument byte parting s 0;
      spreading_factor = argument byte parting s 1;
      bandwidth = argument byte parting s 2;
      coding_rate = argument byte parting s 3;
      frequency = record { 0 = argument hertz parting s 4 };
      preamble_length = argument word parting s 5;
      implicit_header = argument byte parting s 6;
      crc_on = argument byte parting s 7;
      iq_inverted = argument byte parting s 8;
      power = signed_argument parting s 9;
    }
