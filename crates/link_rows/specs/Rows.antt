-- A link as a row of a table: numbers alone, with a tab before each.
use Rattle.std.specs.Prelude.{List, [], ◌∷◌, ◌++◌, ℕ, ◌+◌, ℤ}
use Rattle.sheets.specs.Modem.{hertz}
use Rattle.params.specs.declared.mod_params.Link.{Link}
use Rattle.text.specs.Words.{ascii}
use Rattle.text.specs.Numbers.{signed}
use Rattle.link_rows.specs.Fields.{field, fields}

abbrev pub last_fields : ℕ → ℤ → List ℕ
last_fields iq power = field iq ++ (ascii "\t" ++ (signed power ++ ascii "\n"))

-- the coding rate as what 4 is over, the bandwidth in Hz
abbrev pub modem_fields : Link → List ℕ
modem_fields l = fields (l.public_network ∷ l.spreading_factor ∷ hertz l.bandwidth ∷ (l.coding_rate + 4) ∷ [])

abbrev pub packet_fields : Link → List ℕ
packet_fields l = fields (l.frequency.0 ∷ l.preamble_length ∷ l.implicit_header ∷ l.crc_on ∷ [])

abbrev pub link_fields : Link → List ℕ
link_fields l = modem_fields l ++ (packet_fields l ++ last_fields l.iq_inverted l.power)
