-- `time_on_air::symbols::coded_bits` meets its contract: the greater of 0 and the difference.
use Rattle.std.proofs.Common.{◌+◌, ◌*◌, arith}
use Rattle.time_on_air.specs.Symbols.{coded_bits}
use Rattle.time_on_air.proofs.symbols.Bounds.{difference}
use Rattle.time_on_air.proofs.symbols.coded_bits.Goals as goal

pub returns : goal.returns
unfolding coded_bits
returns c =
    let a = c.args in
    rw (difference (8 * a.length + 28 + 16 * a.crc) (4 * a.sf + 20 * a.implicit)) (omega (arith, c.saturating_sub.ensures), omega (arith, c.saturating_sub.ensures))
