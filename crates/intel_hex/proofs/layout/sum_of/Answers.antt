-- `intel_hex::layout::sum_of` meets its contract: what makes the sum of all bytes a multiple of 256.
use Rattle.std.proofs.Common.{refl, arith}
use Rattle.intel_hex.proofs.Sums.{added, completes_all}
use Rattle.intel_hex.proofs.layout.sum_of.Goals as goal

pub loop-b-preserved : goal.loop-b-preserved
loop-b-preserved c =
    added c.args.bytes.now c.loop-b.b-index c.loop-b.total _ c.loop-b-test.true refl c.loop-b.invariant

pub returns : goal.returns
returns c =
    completes_all c.args.bytes.now c.loop-b.b-index c.loop-b.total _ c.loop-b-test.false c.loop-b.invariant (omega (arith, c.wrapping_neg.ensures)) (omega arith)
