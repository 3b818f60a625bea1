-- A link as a person wants it: a line for each setting.
use Rattle.std.specs.Prelude.{Bool, List, ◌++◌, ℕ, ◌+◌}
use Rattle.sheets.specs.Modem.{hertz}
use Rattle.params.specs.declared.mod_params.Link.{Link}
use Rattle.text.specs.Words.{ascii}
use Rattle.link_lines.specs.Frequencies.{kilohertz}
use Rattle.link_lines.specs.Numbers.{counted, choice}
use Rattle.link_lines.specs.FrequencyLines.{frequency_line}
use Rattle.link_lines.specs.PowerLines.{power_line, pin_line}

abbrev pub sync_line : Link → List ℕ
sync_line l = choice l.public_network (ascii "sync word         0x34 (public)\n") (ascii "sync word         0x12 (private)\n")

abbrev pub bandwidth_line : ℕ → List ℕ
bandwidth_line bw = ascii "bandwidth         " ++ (kilohertz (hertz bw) ++ ascii " kHz\n")

abbrev pub modem_lines : Link → List ℕ
modem_lines l =
    counted (ascii "spreading factor  ") l.spreading_factor (ascii "\n")
    ++ (bandwidth_line l.bandwidth ++ counted (ascii "coding rate       4/") (l.coding_rate + 4) (ascii "\n"))

abbrev pub packet_lines : Link → List ℕ
packet_lines l =
    choice l.implicit_header (ascii "header            implicit\n") (ascii "header            explicit\n")
    ++ (choice l.crc_on (ascii "CRC               on\n") (ascii "CRC               off\n")
    ++ (choice l.iq_inverted (ascii "IQ                inverted\n") (ascii "IQ                normal\n")
    ++ counted (ascii "preamble          ") l.preamble_length (ascii " symbols\n")))

unfoldable pub link_lines : Bool → ℕ → Link → List ℕ
link_lines boost pa l =
    (sync_line l ++ frequency_line l.frequency.0) ++ (modem_lines l ++ (packet_lines l ++ (power_line l.power ++ pin_line boost pa)))
