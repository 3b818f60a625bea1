-- The registers of the reader's order.
-- Assumes nothing.
use mathlib.Core.Bool.{Bool, true, false}
use Prim.Native.Nat.{ℕ, ◌≤◌, ◌<◌}
use native.Mathlib.Omega.{arith}
use lib.Dec.{ltb, ltb→lt}
use lib.ListN.{length, get_or}
use Rattle.sheets.specs.declared.Variant.{Variant}
use Rattle.sheets.specs.declared.Variant.TheVariants.{Sx1272, Sx1276}
use Rattle.sheets.specs.Reader.{reader_order}
use Rattle.sheets.proofs.Sweep.{at}

-- every register of the order is in the image
pub order_lt : (v : Variant) (i : ℕ) → i < length (reader_order v true) → get_or (reader_order v true) i 0 < 128
order_lt Sx1272 i h = ltb→lt _ 128 (at (λ k. ltb (get_or (reader_order Sx1272 true) k 0) 128) 0 18 tt i (omega arith) (omega arith))
order_lt Sx1276 i h = ltb→lt _ 128 (at (λ k. ltb (get_or (reader_order Sx1276 true) k 0) 128) 0 20 tt i (omega arith) (omega arith))

-- a board's registers are the first of the order
pub order_le : (v : Variant) (tcxo : Bool) → length (reader_order v tcxo) ≤ length (reader_order v true)
order_le Sx1272 true = omega arith
order_le Sx1272 false = omega arith
order_le Sx1276 true = omega arith
order_le Sx1276 false = omega arith
