-- `intel_hex::records::Record::sum_fault` meets its contract: the last byte is the sum.
use Rattle.std.proofs.Common.{◌+◌, arith}
use Rattle.intel_hex.proofs.Counted.{counted_by, inside}
use Rattle.intel_hex.proofs.records.Record.sum_fault.Goals as goal

pub byte_at-requires : goal.byte_at-requires
byte_at-requires c =
    let d = c.self.inside.digits.now in
    let n = counted_by d c.args.self.now c.count.result c.self.invariant c.self.view_is c.count.ensures.0 in
    inside d (c.count.result + 4) c.self.invariant (omega arith)
