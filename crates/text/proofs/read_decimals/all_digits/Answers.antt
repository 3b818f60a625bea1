-- `text::read_decimals::all_digits` meets its contract: what `all` of an iterator answers.
use Rattle.std.proofs.Common.{length, ◌∙◌, rules, tests}
use borrow.Author.Tests.{lt-ltb, le-ltb}
use Rattle.std.proofs.lemmas.Iterator.{YieldsList-from_slice}
use Rattle.std.proofs.lemmas.Iterator.Search.{all_from_yields_List}
use Rattle.text.specs.Decimal.{is_digit, digits}
use Rattle.text.proofs.reading.Tests.{all_passes}
use Rattle.text.proofs.read_decimals.all_digits.Goals as goal

pub returns-then-s-gt0 : goal.returns-then-s-gt0
unfolding digits
returns-then-s-gt0 c =
    rw (lt-ltb 0 (length c.args.s.now) c.if-s-gt0.true)
    (all_from_yields_List is_digit _ _ _ c.all.ensures.ran (YieldsList-from_slice c.args.s.now cc) (λ x t q k. search (rules, tests)) ∙ all_passes is_digit c.args.s.now)

pub returns-else-s-gt0 : goal.returns-else-s-gt0
unfolding digits
returns-else-s-gt0 c = rw (le-ltb 0 (length c.args.s.now) c.if-s-gt0.false)
