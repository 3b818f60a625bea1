-- The line of a link's frequency.
use Rattle.std.specs.Prelude.{List, ◌++◌, ℕ}
use Rattle.sheets.specs.Frequency.{steps, frf_msb, frf_mid, frf_lsb}
use Rattle.text.specs.Words.{ascii}
use Rattle.link_lines.specs.Frequencies.{megahertz}
use Rattle.link_lines.specs.Numbers.{counted, bytes_text}

-- the count of steps, and the bytes of RegFrf that hold it
abbrev pub step_text : ℕ → List ℕ
step_text hz =
    counted (ascii " MHz (step ") (steps hz) (ascii ", registers ") ++ (bytes_text (frf_msb (steps hz)) (frf_mid (steps hz)) (frf_lsb (steps hz)) ++ ascii ")\n")

abbrev pub frequency_line : ℕ → List ℕ
frequency_line hz = ascii "frequency         " ++ (megahertz hz ++ step_text hz)
