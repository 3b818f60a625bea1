-- `text::hex::hex_digits` meets its contract: what `all` of an iterator answers.
use Rattle.std.proofs.Common.{length, ◌%◌, ◌∙◌, rules, tests}
use borrow.Author.Tests.{eq-eqb, ne_eqb}
use Rattle.std.proofs.lemmas.Iterator.{YieldsList-from_slice}
use Rattle.std.proofs.lemmas.Iterator.Search.{all_from_yields_List}
use Rattle.text.specs.Hex.{is_nibble, hex_digits}
use Rattle.text.proofs.reading.Tests.{all_passes}
use Rattle.text.proofs.hex.hex_digits.Goals as goal

pub returns-then-s-eq0 : goal.returns-then-s-eq0
unfolding hex_digits
returns-then-s-eq0 c =
    let test = is_nibble c.args.a in
    rw (eq-eqb (length c.args.s.now % 2) 0 c.if-s-eq0.true)
    (all_from_yields_List test _ _ _ c.all.ensures.ran (YieldsList-from_slice c.args.s.now cc) (λ x t q k. search (rules, tests)) ∙ all_passes test c.args.s.now)

pub returns-else-s-eq0 : goal.returns-else-s-eq0
unfolding hex_digits
returns-else-s-eq0 c = rw (ne_eqb (length c.args.s.now % 2) 0 c.if-s-eq0.false)
