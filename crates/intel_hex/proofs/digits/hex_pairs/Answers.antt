-- `intel_hex::digits::hex_pairs` meets its contract: what `all` of an iterator answers.
use Rattle.std.proofs.Common.{length, ◌%◌, ◌∙◌, rules, tests}
use borrow.Author.Tests.{eq-eqb, ne_eqb}
use Rattle.std.proofs.lemmas.Iterator.{YieldsList-from_slice}
use Rattle.std.proofs.lemmas.Iterator.Search.{all_from_yields_List}
use Rattle.text.specs.Hex.{any_digit}
use Rattle.text.proofs.reading.Tests.{all_passes}
use Rattle.intel_hex.specs.Record.{hex_pairs}
use Rattle.intel_hex.proofs.digits.hex_pairs.Goals as goal

pub returns-then-digits-eq0 : goal.returns-then-digits-eq0
unfolding hex_pairs
returns-then-digits-eq0 c =
    rw (eq-eqb (length c.args.digits.now % 2) 0 c.if-digits-eq0.true)
    (all_from_yields_List any_digit _ _ _ c.all.ensures.ran (YieldsList-from_slice c.args.digits.now cc) (λ x t q k. search (rules, tests)) ∙ all_passes any_digit c.args.digits.now)

pub returns-else-digits-eq0 : goal.returns-else-digits-eq0
unfolding hex_pairs
returns-else-digits-eq0 c = rw (ne_eqb (length c.args.digits.now % 2) 0 c.if-digits-eq0.false)
