-- `modem::modulation::write_modem` meets its contract: the SX1272 wants its bandwidths alone, and what is not refused is one of them.
use Rattle.std.proofs.Common.{arith}
use Rattle.sheets.specs.declared.Variant.TheVariants.{Sx1272}
use Rattle.modem.proofs.modulation.Ranges.{in_range, from_125}
use Rattle.modem.proofs.modulation.write_modem.Goals as goal

pub set_modulation_params-requires-clause-codes : goal.set_modulation_params-requires-clause-codes
set_modulation_params-requires-clause-codes c =
    let r = in_range Sx1272 c.args.p (rw c.in-Sx1272.is at c.requires.p_value) in
    omega (arith, from_125 c.args.p.bandwidth r.bw r.has)
