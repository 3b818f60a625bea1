-- `programming::acceptance::link_refusal` meets its contract: nothing refuses an accepted link, and of any other the two parts are the whole.
use Rattle.std.proofs.Common.{rules, sym, subst, T}
use Rattle.page.proofs.Acceptance.{accepted_clear}
use Rattle.programming.proofs.acceptance.Whole.{whole}
use Rattle.programming.proofs.acceptance.link_refusal.Goals as goal

pub returns-then-accepts : goal.returns-then-accepts
returns-then-accepts c = sym (accepted_clear c.args.variant c.args.link (subst T c.accepts.ensures (rw c.if-accepts.true tt)))

pub returns-in_err-link_named : goal.returns-in_err-link_named
returns-in_err-link_named c = rw (whole c.args.variant c.args.link) (search rules)

pub returns : goal.returns
returns c = rw (whole c.args.variant c.args.link) (search rules)
