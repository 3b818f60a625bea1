-- `intel_hex::places::Held::show` meets its contract: one byte after the other is shown.
use Rattle.std.proofs.Common.{arith, rules}
use lib.ListN.{length-set}
use Rattle.intel_hex.proofs.Held.{one_shown, all_shown}
use Rattle.intel_hex.proofs.places.Held.show.Goals as goal

pub loop-i-preserved : goal.loop-i-preserved
loop-i-preserved c =
    let i = c.loop-i.invariant in
    record {
      size = search (rules, length-set);
      bytes = one_shown c.loop-i.image c.args.self.now.places c.loop-i.i c.unwrap_or.result (omega (arith, i.size)) c.unwrap_or.ensures i.bytes;
    }

pub returns : goal.returns
returns c =
    let i = c.loop-i.invariant in
    all_shown c.loop-i.image c.args.self.now.places (search (rules, i.size)) (λ k l. i.bytes k (omega (arith, i.size)))
