-- `bus::admit::admit_fifo` meets its contract: a FIFO of 256 bytes leaves the rest to `admit`.
use Rattle.std.proofs.Common.{◌∙◌, eq-eqb, ne_eqb}
use Rattle.bus.specs.Call.{admitted_fifo}
use Rattle.bus.proofs.admit.admit_fifo.Goals as goal

pub returns-then-fifo-ne256 : goal.returns-then-fifo-ne256
unfolding admitted_fifo
returns-then-fifo-ne256 c = simp (ne_eqb _ _ c.if-fifo-ne256.true)

pub returns : goal.returns
unfolding admitted_fifo
returns c = c.admit.ensures ∙ simp (eq-eqb _ _ c.if-fifo-ne256.false)
