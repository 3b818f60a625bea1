-- The lines of a link's power.
use Rattle.std.specs.Prelude.{Bool, true, false, cond, List, ◌++◌, ℕ, ltb, ℤ}
use Rattle.text.specs.Words.{ascii}
use Rattle.text.specs.Numbers.{signed}

abbrev pub power_line : ℤ → List ℕ
power_line p = ascii "power             " ++ (signed p ++ ascii " dBm\n")

-- what PaSelect, the highest bit of RegPaConfig, says; without boost the Rust sets it below 0 dBm (docs/DIFFERENCES.md)
abbrev pub boost_pin : Bool → List ℕ
boost_pin true = ascii "output pin        PA_BOOST\n"
boost_pin false = ascii "output pin        PA_BOOST by the register, though the board has no boost\n"

abbrev pub pin_line : Bool → ℕ → List ℕ
pin_line boost pa = cond (ltb pa 128) (ascii "output pin        RFO\n") (boost_pin boost)
