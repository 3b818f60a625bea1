-- `intel_hex::places::Held::place_fault` meets its contract: the fault of what is left is the fault of the whole.
use Rattle.std.proofs.Common.{◌≡◌, ◌+◌, false, get_or, None, is_some, sym, ◌∙◌, arith}
use borrow.Author.Tests.{lt-ltb}
use Rattle.intel_hex.proofs.Held.{next_taken}
use Rattle.intel_hex.proofs.places.Held.place_fault.Goals as goal

pub loop-a-preserved : goal.loop-a-preserved
loop-a-preserved c =
    let s = c.args.self.now.places in
    let a = c.loop-a.a in
    let free : is_some (get_or s a None) ≡ false = sym c.is_some.ensures ∙ c.if-is_some.false in
    rw (lt-ltb a 128 (omega arith), free) at (sym (next_taken s a (c.args.first + c.args.count) (omega arith)) ∙ c.loop-a.invariant)
