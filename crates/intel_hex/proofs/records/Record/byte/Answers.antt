-- `intel_hex::records::Record::byte` meets its contract: the bytes stand behind count, address and type.
use Rattle.std.proofs.Common.{◌+◌, ◌<◌, length, sym, ◌∙◌, arith}
use Rattle.intel_hex.specs.Record.{said, record_of}
use Rattle.intel_hex.proofs.Counted.{few, many, byte_of, inside}
use Rattle.intel_hex.proofs.records.Record.byte.Goals as goal

pub overflow_add-i : goal.overflow_add-i
overflow_add-i c =
    let d = c.self.inside.digits.now in
    let i : c.args.i < length (record_of (said d)).bytes = rw (sym c.self.view_is) at c.requires in
    let f = few d c.self.invariant in
    record { fits = omega arith }

pub byte_at-requires : goal.byte_at-requires
byte_at-requires c =
    let d = c.self.inside.digits.now in
    let i : c.args.i < length (record_of (said d)).bytes = rw (sym c.self.view_is) at c.requires in
    let m = many (said d) c.self.invariant in
    inside d (c.args.i + 4) c.self.invariant (omega arith)

pub returns : goal.returns
returns c =
    let d = c.self.inside.digits.now in
    let i : c.args.i < length (record_of (said d)).bytes = rw (sym c.self.view_is) at c.requires in
    let m = many (said d) c.self.invariant in
    rw (sym c.self.view_is) (c.byte_at.ensures ∙ sym (byte_of (said d) c.args.i (omega arith)))
