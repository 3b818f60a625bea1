-- `reader::power_shown::rfo_shown_sx1276` meets its contract: by the byte.
use Rattle.std.proofs.Common.{◌%◌, false, to_z, w32, arith}
use Rattle.sheets.specs.declared.Variant.TheVariants.{Sx1276}
use Rattle.sheets.proofs.Sweep.{agree}
use Rattle.page.specs.Lora.{shown}
use Rattle.reader.proofs.power_shown.rfo_shown_sx1276.Goals as goal

pub returns-in-252 : goal.returns-in-252
unfolding shown
returns-in-252 c = rw c.in-252.is

pub returns-in-253 : goal.returns-in-253
unfolding shown
returns-in-253 c = rw c.in-253.is

pub returns-in-254 : goal.returns-in-254
unfolding shown
returns-in-254 c = rw c.in-254.is

pub returns-in-255 : goal.returns-in-255
unfolding shown
returns-in-255 c = rw c.in-255.is

pub returns-in_default : goal.returns-in_default
unfolding shown
returns-in_default c = agree 0 252 (λ k. to_z w32 (k % 16)) (shown Sx1276 false) tt c.args.value (omega arith) (omega arith)
