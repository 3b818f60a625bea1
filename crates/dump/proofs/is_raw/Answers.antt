-- `dump::is_raw` meets its contract: what `all` of an iterator answers.
use Rattle.std.proofs.Common.{length, ap, not, ◌∙◌, rules, tests}
use borrow.Author.Tests.{eq-eqb}
use Rattle.std.proofs.lemmas.Iterator.{YieldsList-from_slice}
use Rattle.std.proofs.lemmas.Iterator.Search.{all_from_yields_List}
use Rattle.text.proofs.reading.Tests.{all_passes}
use Rattle.dump.specs.Dump.{could_be_hex, is_raw}
use Rattle.dump.proofs.is_raw.Goals as goal

pub returns-then-input-eq128 : goal.returns-then-input-eq128
unfolding is_raw
returns-then-input-eq128 c =
    let s = c.args.input.now in
    let passes = all_from_yields_List could_be_hex _ _ _ c.all.ensures.ran (YieldsList-from_slice s cc) (λ x t q k. search (rules, tests)) ∙ all_passes could_be_hex s in
    rw (eq-eqb (length s) 128 c.if-input-eq128.true) (ap not passes)
