-- `text::printing::Text::put_signed` meets its contract: the sign decides.
use Rattle.std.proofs.Common.{w32}
use Rattle.std.proofs.lemmas.Int.{to_z-of_z}
use Rattle.text.proofs.put_decimals.Digits.{below_zero, from_zero}
use Rattle.text.proofs.printing.Appending.{then}
use Rattle.text.proofs.printing.Text.put_signed.Goals.{then-n-lt0, else-n-lt0}
use Rattle.text.proofs.printing.Text.put_signed.Goals as goal

pub returns-clause-appended : goal.returns-clause-appended
returns-clause-appended c =
    let n = to_z-of_z w32 c.args.n c.ranges.n in
    let digits = rw (c.unsigned_abs.ensures.value, n) at c.put_decimal.ensures.appended in
    elim c.if-n-lt0.branch [
      | then-n-lt0 w ↦ rw (below_zero c.args.n (rw n at w.if-n-lt0.true)) (then w.put.ensures (rw w.self-is at digits))
      | else-n-lt0 w ↦ rw (from_zero c.args.n (rw n at w.if-n-lt0.false)) (rw w.self-is at digits)
    ]
