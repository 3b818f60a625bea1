-- A board as a person wants it, in a line.
use Rattle.std.specs.Prelude.{Bool, true, false, List, [], ◌++◌, ℕ}
use Rattle.sheets.specs.declared.Variant.{Variant}
use Rattle.sheets.specs.declared.Variant.TheVariants.{Sx1272, Sx1276}
use Rattle.text.specs.Words.{ascii}
use Rattle.link_lines.specs.declared.board.Oscillator.{Oscillator}
use Rattle.link_lines.specs.declared.board.Oscillator.TheVariants.{Crystal, Tcxo, Either}

abbrev pub chip_text : Variant → List ℕ
chip_text Sx1272 = ascii "board             SX1272"
chip_text Sx1276 = ascii "board             SX1276"

abbrev pub boost_text : Bool → List ℕ
boost_text true = ascii ", boost"
boost_text false = []

abbrev pub oscillator_text : Oscillator → List ℕ
oscillator_text Crystal = ascii "\n"
oscillator_text Tcxo = ascii ", TCXO\n"
oscillator_text Either = ascii ", with or without TCXO\n"

abbrev pub board_line : Variant → Bool → Oscillator → List ℕ
board_line v boost o = chip_text v ++ (boost_text boost ++ oscillator_text o)
