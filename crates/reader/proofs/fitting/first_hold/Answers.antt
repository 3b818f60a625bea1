-- `reader::fitting::first_hold` meets its contract: the registers so far are kept.
use Rattle.std.proofs.Common.{◌≡◌, T, true, get_or, take, sym, subst, below_more, arith}
use Rattle.sheets.specs.Reader.{reader_order}
use Rattle.page.specs.Page.{holds}
use Rattle.page.specs.Lora.{places_of}
use Rattle.reader.specs.Tests.{keeps}
use Rattle.reader.proofs.SoFar.{same_test, first_each, first_all}
use Rattle.reader.proofs.fitting.Order.{order_lt, order_le}
use Rattle.reader.proofs.fitting.first_hold.Goals as goal

-- the register is in the image
pub keeps-requires : goal.keeps-requires
keeps-requires c =
    let b = c.args.link.board in
    let h = order_le b.variant b.tcxo_used in
    rw c.reader_order.ensures (order_lt b.variant c.loop-i.i (omega arith))

pub returns-then-not-keeps : goal.returns-then-not-keeps
returns-then-not-keeps c =
    let a = c.args in
    let b = a.link.board in
    let i = c.loop-i.i in
    let im = a.image.now in
    let told : c.keeps.result ≡ keeps b a.link.link (get_or (reader_order b.variant true) i 0) im = rw (← c.reader_order.ensures) c.keeps.ensures in
    same_test _ (holds (take a.n (places_of b)) a.link.link im) (λ x. absurd x)
    (λ t. subst T c.if-not-keeps.true (subst T (sym told) (first_each b a.link.link im a.n (omega arith) t i (omega arith))))

pub loop-i-preserved : goal.loop-i-preserved
loop-i-preserved c =
    let a = c.args in
    let b = a.link.board in
    let told : c.keeps.result ≡ keeps b a.link.link (get_or (reader_order b.variant true) c.loop-i.i 0) a.image.now = rw (← c.reader_order.ensures) c.keeps.ensures in
    below_more _ _ c.loop-i.invariant (subst T told (rw c.if-not-keeps.false tt))

pub returns : goal.returns
returns c =
    let a = c.args in
    let b = a.link.board in
    same_test _ (holds (take a.n (places_of b)) a.link.link a.image.now)
    (λ x. first_all b a.link.link a.image.now a.n (omega arith) (λ k h. c.loop-i.invariant k (omega arith)))
    (λ t. tt)
