-- `reader::power_shown::power_shown_with` meets its contract: by output and setting.
use Rattle.std.proofs.Common.{false, arith}
use Rattle.sheets.specs.declared.Variant.TheVariants.{Sx1272}
use Rattle.reader.proofs.power_shown.Bytes.{strong_72, weak_72, with_rfo, rfo_72, shown_held}
use Rattle.reader.proofs.power_shown.power_shown_with.Goals as goal

pub returns-in-true-eq7 : goal.returns-in-true-eq7
returns-in-true-eq7 c = rw c.in-true-eq7.is-0 (strong_72 c.args.value (omega arith) c.args.dac c.in-true-eq7.is-1)

pub returns-in-true-default : goal.returns-in-true-default
returns-in-true-default c = rw c.in-true-default.is-0 (weak_72 c.args.value (omega arith) c.args.dac (λ e. absurd (omega arith)))

pub returns-in-false-default : goal.returns-in-false-default
returns-in-false-default c =
    let a = c.args in
    rw (c.in-false-default.is-0, c.rfo_shown_sx1272.ensures, with_rfo a.value (omega arith) a.dac, rfo_72 a.value (omega arith))
    (shown_held a.value (omega arith) Sx1272 false)
