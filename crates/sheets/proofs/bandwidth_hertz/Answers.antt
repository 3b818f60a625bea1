-- `sheets::bandwidth_hertz` meets its contract: the table is the definition's list.
use Rattle.std.proofs.Common.{refl}
use Rattle.sheets.specs.Modem.{bandwidths}
use Rattle.sheets.proofs.bandwidth_hertz.Goals as goal

pub returns : goal.returns
unfolding bandwidths
returns c = refl
