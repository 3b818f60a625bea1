-- `link_rows::fields::put_fields` meets its contract: one field more.
use Rattle.std.proofs.Common.{refl, arith}
use Rattle.text.proofs.printing.Appending.{one_more}
use Rattle.link_rows.specs.Fields.{field, fields}
use Rattle.link_rows.proofs.fields.put_fields.Goals as goal

pub loop-n-preserved : goal.loop-n-preserved
loop-n-preserved c = record {
  put = one_more fields field refl (λ n ns. refl) c.args.numbers.now c.loop-n.n-index 0 c.loop-n-test.true c.loop-n.invariant.put c.put_field.ensures.appended;
  short = omega arith;
}
