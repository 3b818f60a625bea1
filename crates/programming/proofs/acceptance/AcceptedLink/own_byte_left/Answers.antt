-- `AcceptedLink::own_byte_left` meets its contract: a register that is none of these stays.
use Rattle.std.proofs.Common.{arith}
use Rattle.sheets.specs.declared.Variant.TheVariants.{Sx1272, Sx1276}
use Rattle.programming.proofs.bytes_left.Own.{left_alone}
use Rattle.programming.proofs.acceptance.AcceptedLink.own_byte_left.Goals as goal

pub returns-in_default : goal.returns-in_default
returns-in_default c =
    let a = c.args in
    left_alone a.self.board Sx1276 c.in_default.is-0 a.register c.requires c.in_default.is-1 a.self.link a.old (omega arith)

pub returns-in_default-2 : goal.returns-in_default-2
returns-in_default-2 c =
    let a = c.args in
    left_alone a.self.board Sx1272 c.in_default.is-0 a.register c.requires c.in_default.is-1 a.self.link a.old (omega arith)
