-- `programming::program` meets its contract: a call that is admitted is of an accepted link.
use Rattle.std.specs.Prelude.{Ok}
use Rattle.std.proofs.Common.{rules, ◌≡◌, arith}
use Rattle.refusals.specs.Refusals.{link_refusal}
use Rattle.bus.proofs.admit.Calls.{admitted→room}
use Rattle.page.proofs.Acceptance.{ranges}
use Rattle.programming.proofs.acceptance.Whole.{clear_accepted}
use Rattle.programming.proofs.program.Goals as goal

pub invariant_of-write : goal.invariant_of-write
invariant_of-write c =
    let b = c.args.board in
    let l = c.args.link in
    let e : link_refusal b.variant l ≡ Ok tt = search (rules, admitted→room) in
    let h = clear_accepted b.variant l e (omega arith) in
    record { accepted = h; in_range = ranges b.variant l h }
