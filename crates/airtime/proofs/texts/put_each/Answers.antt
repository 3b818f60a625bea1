-- `airtime::texts::put_each` meets its contract: one number more, between its two texts.
use Rattle.std.proofs.Common.{◌++◌, refl, arith, append_assoc}
use Rattle.text.specs.Numbers.{decimal}
use Rattle.text.proofs.printing.Appending.{then, one_more}
use Rattle.airtime.specs.Texts.{each_text}
use Rattle.airtime.proofs.texts.put_each.Goals as goal

pub loop-total-preserved : goal.loop-total-preserved
loop-total-preserved c =
    let b = c.args.before.now in
    let a = c.args.after.now in
    record {
      put = one_more (each_text b a) (λ n. b ++ (decimal n ++ a)) refl (λ n ns. rw (append_assoc, append_assoc) refl) c.args.totals.now c.loop-total.total-index 0 c.loop-total-test.true c.loop-total.invariant.put (then c.put.ensures (then c.put_decimal.ensures.appended c.put-in-loop-total.ensures));
      short = omega arith;
    }
