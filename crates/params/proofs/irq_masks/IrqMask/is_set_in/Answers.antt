-- `params::irq_masks::IrqMask::is_set_in` meets its contract: a mask of one bit is seen where the bit is raised, at every byte.
use Rattle.std.proofs.Common.{◌≡◌, ℕ, ◌<◌, nat_eq, bit_and, arith}
use Rattle.sheets.specs.Interrupts.{raised}
use Rattle.sheets.proofs.Sweep.{alike}
use Rattle.params.specs.declared.irq_masks.IrqMask.{IrqMask}
use Rattle.params.specs.declared.irq_masks.IrqMask.TheVariants.{CADActivityDetected, CADDone, TxDone, HeaderValid, RxDone, RxTimeout}
use Rattle.params.specs.Flags.{flag_of, flag_mask}
use Rattle.params.proofs.irq_masks.IrqMask.is_set_in.Goals as goal

abbrev Seen : IrqMask → Type 0
Seen m = (b : ℕ) → b < 256 → nat_eq (bit_and (flag_mask m) b) (flag_mask m) ≡ raised (flag_of m) b

seen : (m : IrqMask) → Seen m
seen CADActivityDetected b h = alike 0 256 (λ k. nat_eq (bit_and 1 k) 1) (raised (flag_of CADActivityDetected)) tt b (omega arith) (omega arith)
seen CADDone b h = alike 0 256 (λ k. nat_eq (bit_and 4 k) 4) (raised (flag_of CADDone)) tt b (omega arith) (omega arith)
seen TxDone b h = alike 0 256 (λ k. nat_eq (bit_and 8 k) 8) (raised (flag_of TxDone)) tt b (omega arith) (omega arith)
seen HeaderValid b h = alike 0 256 (λ k. nat_eq (bit_and 16 k) 16) (raised (flag_of HeaderValid)) tt b (omega arith) (omega arith)
seen RxDone b h = alike 0 256 (λ k. nat_eq (bit_and 64 k) 64) (raised (flag_of RxDone)) tt b (omega arith) (omega arith)
seen RxTimeout b h = alike 0 256 (λ k. nat_eq (bit_and 128 k) 128) (raised (flag_of RxTimeout)) tt b (omega arith) (omega arith)

pub returns : goal.returns
returns c = rw c.value-mask.ensures (seen c.args.self c.args.flags (omega arith))
