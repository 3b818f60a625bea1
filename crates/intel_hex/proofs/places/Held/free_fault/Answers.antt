-- `intel_hex::places::Held::free_fault` meets its contract: the fault of what is left is the fault of the whole.
use Rattle.std.proofs.Common.{◌≡◌, true, get_or, None, is_some, refl, sym, ◌∙◌, arith}
use Rattle.intel_hex.proofs.Held.{next_free, all_free}
use Rattle.intel_hex.proofs.places.Held.free_fault.Goals as goal

pub loop-a-init : goal.loop-a-init
loop-a-init c = all_free c.args.self.now.places 128 refl

pub loop-a-preserved : goal.loop-a-preserved
loop-a-preserved c =
    let s = c.args.self.now.places in
    let a = c.loop-a.a in
    let is_set : is_some (get_or s a None) ≡ true = rw c.if-is_none.false at c.is_none.ensures in
    rw is_set at (sym (next_free s a 128 (omega arith)) ∙ c.loop-a.invariant)
