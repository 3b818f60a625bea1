-- `time_on_air::symbols::coded_symbols` meets its contract: its sums are those of the definition, and small.
use Rattle.std.proofs.Common.{refl, arith}
use Rattle.time_on_air.specs.Symbols.{coded_symbols}
use Rattle.time_on_air.proofs.symbols.Bounds.{coded_bound}
use Rattle.time_on_air.proofs.symbols.coded_symbols.Goals as goal

pub returns : goal.returns
unfolding coded_symbols
returns c = let a = c.args in (refl, coded_bound a.sf a.de a.cr a.bits (omega arith) (omega arith) (omega arith))
