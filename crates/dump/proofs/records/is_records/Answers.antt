-- `dump::records::is_records` meets its contract: what `all` of an iterator answers.
use Rattle.std.proofs.Common.{◌≡◌, length, get_or, ◌∙◌, rules, tests}
use borrow.Author.Tests.{eq-eqb}
use Rattle.std.proofs.lemmas.Iterator.{YieldsList-from_slice}
use Rattle.std.proofs.lemmas.Iterator.Search.{all_from_yields_List}
use Rattle.text.proofs.reading.Tests.{all_passes}
use Rattle.dump.specs.Characters.{in_records}
use Rattle.dump.specs.Dump.{is_records}
use Rattle.dump.proofs.records.is_records.Goals as goal

pub returns-else-input-ne128 : goal.returns-else-input-ne128
unfolding is_records
returns-else-input-ne128 c =
    let s = c.args.input.now in
    let colon : get_or s 0 0 ≡ 58 = search (rules, tests) in
    let passes = all_from_yields_List in_records _ _ _ c.all.ensures.ran (YieldsList-from_slice s cc) (λ x t q k. search (rules, tests)) ∙ all_passes in_records s in
    rw (eq-eqb (get_or s 0 0) 58 colon, eq-eqb (length s) 128 c.if-input-ne128.false) passes
