-- The register that rules a link out, and what it holds.
use Rattle.std.specs.Prelude.{List, ◌++◌, ℕ}
use Rattle.text.specs.Words.{ascii}
use Rattle.link_lines.specs.Numbers.{byte_text}

-- both bytes, each behind the words for it
abbrev pub ruled_out : List ℕ → ℕ → List ℕ → ℕ → List ℕ
ruled_out named register holds value = named ++ (byte_text register ++ (holds ++ (byte_text value ++ ascii "\n")))

abbrev pub ruled_out_line : ℕ → ℕ → List ℕ
ruled_out_line register value = ruled_out (ascii "no link           27 NotALink: register 0x") register (ascii " holds 0x") value

abbrev pub ruled_out_fields : ℕ → ℕ → List ℕ
ruled_out_fields register value = ruled_out (ascii "\t0x") register (ascii "\t0x") value
