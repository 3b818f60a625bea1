-- `text::reading::fields::count` meets its contract: what `count` of an iterator answers.
use Rattle.std.proofs.Common.{◌≡◌, ◌+◌, suc, eqb, refl, arith, rules}
use Rattle.std.proofs.lemmas.List.Recursion.{is_count_by}
use Rattle.text.specs.Fields.{count_of}
use Rattle.text.proofs.reading.fields.count.Goals as goal

pub returns : goal.returns
returns c = search (rules, is_count_by (count_of c.args.b) (λ x. eqb x c.args.b) refl (λ x xs. let e : suc (count_of c.args.b xs) ≡ 1 + count_of c.args.b xs = omega arith in rw e))
