-- `reader::last_examined` meets its contract: some register was looked at, and all of them are in the order.
use Rattle.std.proofs.Common.{◌-◌, ◌<◌, length, true, arith}
use Rattle.sheets.specs.Reader.{reader_order}
use Rattle.reader.proofs.fitting.Order.{order_lt, order_le}
use Rattle.reader.proofs.Least.{not_none}
use Rattle.reader.proofs.last_examined.Goals as goal

pub overflow_sub-examined : goal.overflow_sub-examined
overflow_sub-examined c = omega (arith, not_none c.args.board c.args.image.now c.examined.result c.examined.ensures)

-- the last one is in the order
pub returns-clause-upper_bound : goal.returns-clause-upper_bound
returns-clause-upper_bound c =
    let b = c.args.board in
    let n = c.examined.result in
    let some = not_none b c.args.image.now n c.examined.ensures in
    let in_order : n - 1 < length (reader_order b.variant true) = omega (arith, order_le b.variant b.tcxo_used) in
    rw c.reader_order.ensures (order_lt b.variant (n - 1) in_order)
