-- `text::reading::fields::field` meets its contract: one field less is left.
use Rattle.std.proofs.Common.{◌∙◌, sym}
use Rattle.text.proofs.reading.Parted.{next}
use Rattle.text.proofs.reading.fields.field.Goals as goal

pub loop-preserved : goal.loop-preserved
loop-preserved c =
    let l = c.loop in
    rw c.behind-rest.ensures (sym (next c.args.sep c.args.k l.counter l.rest.now c.loop-test.true) ∙ l.invariant)
