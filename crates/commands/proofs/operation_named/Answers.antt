-- `commands::operation_named` meets its contract: each name stands beside its operation, in the operations' order.
use Rattle.commands.specs.Operations.{operations, operation_of}
use Rattle.commands.proofs.operation_named.Goals as goal

pub returns : goal.returns
unfolding operations operation_of
returns c = c.found.ensures
