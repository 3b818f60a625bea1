-- `text::bytes::find` meets its contract: what `position` answers.
use Rattle.std.proofs.Common.{eqb, rules, tests}
use Rattle.std.proofs.lemmas.Iterator.{YieldsList-from_slice}
use Rattle.std.proofs.lemmas.Iterator.Search.{position_from_yields_List}
use Rattle.text.proofs.bytes.Position.{found}
use Rattle.text.proofs.bytes.find.Goals as goal

pub returns : goal.returns
returns c =
    let b = c.args.b in
    let s = c.args.s.now in
    let p = position_from_yields_List (λ x. eqb x b) _ _ _ c.position.ensures.ran (YieldsList-from_slice s cc) (λ x t q k. search (rules, tests)) in
    rw p (found b s)
