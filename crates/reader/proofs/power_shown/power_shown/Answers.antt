-- `reader::power_shown::power_shown` meets its contract: by variant and output.
use Rattle.std.proofs.Common.{false, arith}
use Rattle.sheets.specs.declared.Variant.TheVariants.{Sx1272}
use Rattle.reader.proofs.power_shown.Bytes.{boosted_72, boosted_76, rfo_72, shown_held}
use Rattle.reader.proofs.power_shown.power_shown.Goals as goal

pub returns-in-Sx1272-true : goal.returns-in-Sx1272-true
returns-in-Sx1272-true c = rw (c.in-Sx1272-true.is-0, c.in-Sx1272-true.is-1) (boosted_72 c.args.value (omega arith))

pub returns-in-Sx1276-true : goal.returns-in-Sx1276-true
returns-in-Sx1276-true c = rw (c.in-Sx1276-true.is-0, c.in-Sx1276-true.is-1) (boosted_76 c.args.value (omega arith))

pub returns-in-Sx1272-false : goal.returns-in-Sx1272-false
returns-in-Sx1272-false c =
    let x = c.args.value in
    rw (c.in-Sx1272-false.is-0, c.in-Sx1272-false.is-1, c.rfo_shown_sx1272.ensures, rfo_72 x (omega arith)) (shown_held x (omega arith) Sx1272 false)
