-- `replies::values::put_numbers` meets its contract: each turn writes one number more.
use Rattle.std.proofs.Common.{List, ℕ, ◌∷◌, refl, arith}
use Rattle.params.specs.Errors.{plain}
use Rattle.text.specs.Numbers.{decimal}
use Rattle.text.proofs.printing.Appending.{then, one_more}
use Rattle.replies.specs.Answers.{values_text}
use Rattle.replies.proofs.values.put_numbers.Goals as goal

pub loop-n-preserved : goal.loop-n-preserved
loop-n-preserved c =
    let l = c.loop-n in
    record {
      within = omega arith;
      put = one_more (λ (ns : List ℕ). values_text (plain ns)) (λ (n : ℕ). 32 ∷ decimal n) refl (λ n ns. refl) c.args.numbers.now l.n-index _ c.loop-n-test.true l.invariant.put (then c.put.ensures c.put_decimal.ensures.appended);
      short = omega arith;
    }
