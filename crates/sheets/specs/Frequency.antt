-- Frequency and synthesizer steps (sheets: "Frequency Settings"): one step is 32 MHz / 2^19 = 15625/256 Hz.
use Rattle.std.specs.Prelude.{ℕ, ◌+◌, ◌*◌, ◌/◌, ◌%◌}

-- the steps of a frequency in hertz, rounded down
unfoldable pub steps : ℕ → ℕ
steps hz = 256 * hz / 15625

-- what RegFrf takes of a count, high byte first; bits from 24 on are lost
abbrev pub frf_msb : ℕ → ℕ
frf_msb n = n / 256 / 256 % 256

abbrev pub frf_mid : ℕ → ℕ
frf_mid n = n / 256 % 256

abbrev pub frf_lsb : ℕ → ℕ
frf_lsb n = n % 256

-- the count that three bytes of RegFrf hold
abbrev pub frf : ℕ → ℕ → ℕ → ℕ
frf msb mid lsb = (msb * 256 + mid) * 256 + lsb

-- the count that RegFrf holds once a frequency is written
abbrev pub held : ℕ → ℕ
held hz = frf (frf_msb (steps hz)) (frf_mid (steps hz)) (frf_lsb (steps hz))

-- the frequency of a count in hertz, cut down to a whole number: the truncated read-back
unfoldable pub read_back : ℕ → ℕ
read_back n = 15625 * n / 256

-- the lowest whole frequency that has this count of steps
unfoldable pub lowest : ℕ → ℕ
lowest n = (15625 * n + 255) / 256

-- from here on a count no longer fits RegFrf
abbrev pub frf_limit : ℕ
frf_limit = 1024000000
