-- `text::read_decimals::value` meets its contract: what is left, after the value read so far, gives the value of the whole.
use Rattle.std.proofs.Common.{sym, arith}
use Rattle.std.proofs.Math.ListN.{drop_of_length-le}
use borrow.Author.Tests.{le-leb}
use Rattle.text.specs.Decimal.{valued}
use Rattle.text.proofs.read_decimals.Valued.{too_much}
use Rattle.text.proofs.read_decimals.value.Goals as goal

pub returns-then-n-most : goal.returns-then-n-most
returns-then-n-most c =
    let l = c.loop-b in
    too_much c.args.most c.args.s.now l.b-index l.n c.loop-b-test.true l.invariant.1 (omega arith)

pub returns : goal.returns
unfolding valued
returns c =
    let l = c.loop-b in
    let e = rw (drop_of_length-le c.args.s.now c.loop-b-test.false) at l.invariant.1 in
    rw (sym e, le-leb l.n c.args.most l.invariant.0)
