-- `intel_hex::records::Record::right_sum` meets its contract: what makes the sum of all bytes a multiple of 256.
use Rattle.std.proofs.Common.{◌≡◌, ◌+◌, ◌%◌, get_or, ap, ◌∙◌, arith}
use Rattle.intel_hex.specs.Record.{total as total_of, said, summed, record_of, right_sum}
use Rattle.intel_hex.proofs.Sums.{added, completes}
use Rattle.intel_hex.proofs.Counted.{size, counted_by, sums, inside}
use Rattle.intel_hex.proofs.records.Record.right_sum.Goals as goal

pub byte_at-total-requires : goal.byte_at-total-requires
byte_at-total-requires c =
    let d = c.self.inside.digits.now in
    let n = counted_by d c.args.self.now c.count-k-end.result c.self.invariant c.self.view_is c.count-k-end.ensures.0 in
    inside d c.loop-k.k c.self.invariant (omega arith)

pub loop-k-preserved : goal.loop-k-preserved
loop-k-preserved c =
    let d = c.self.inside.digits.now in
    let n = counted_by d c.args.self.now c.count-k-end.result c.self.invariant c.self.view_is c.count-k-end.ensures.0 in
    let l = size (said d) c.self.invariant in
    added (said d) c.loop-k.k c.loop-k.total c.byte_at-total.result (omega arith) c.byte_at-total.ensures c.loop-k.invariant

pub returns : goal.returns
returns c =
    let d = c.self.inside.digits.now in
    let bs = said d in
    let n = counted_by d c.args.self.now c.count-k-end.result c.self.invariant c.self.view_is c.count-k-end.ensures.0 in
    let k : c.loop-k.k ≡ get_or bs 0 0 + 4 = omega arith in
    let whole : c.loop-k.total ≡ total_of (summed (record_of bs)) % 256 = rw (k, ← sums bs c.self.invariant) at c.loop-k.invariant in
    completes (summed (record_of bs)) c.loop-k.total c.wrapping_neg.result whole (omega (arith, c.wrapping_neg.ensures)) (omega arith) ∙ ap right_sum c.self.view_is
