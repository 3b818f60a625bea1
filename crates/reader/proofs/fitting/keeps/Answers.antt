-- `reader::fitting::keeps` meets its contract: the byte that is left, compared with the one that is there.
use Rattle.reader.specs.Tests.{keeps}
use Rattle.reader.proofs.fitting.keeps.Goals as goal

pub returns : goal.returns
unfolding keeps
returns c = rw c.byte_left.ensures
