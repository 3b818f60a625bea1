-- What is promised of the number of registers looked at determines it, and it is not 0.
-- Assumes nothing.
use mathlib.Core.Path.{◌≡◌}
use mathlib.Core.Bool.{Bool, true, false}
use mathlib.Core.List.{List}
use Prim.Native.Nat.{ℕ, zero, suc, ◌<◌}
use native.Mathlib.Omega.{arith}
use lib.ListN.{length}
use Rattle.sheets.specs.declared.Variant.{Variant}
use Rattle.sheets.specs.declared.Variant.TheVariants.{Sx1272, Sx1276}
use Rattle.sheets.specs.Reader.{reader_order}
use Rattle.params.specs.declared.board.Board.{Board}
use Rattle.reader.specs.Look.{Examined}
use Rattle.reader.proofs.SoFar.{begins}

module _ (b : Board) (im : List ℕ) (m n : ℕ) (p : Examined b im m) (q : Examined b im n) where
  -- one that is less would have to be all
  not_less : m < n → ⊥
  not_less h = omega (arith, p.last (q.before m h))

pub one_count : (b : Board) (im : List ℕ) (m n : ℕ) → Examined b im m → Examined b im n → m ≡ n
one_count b im m n p q = omega (arith, not_less b im m n p q, not_less b im n m q p)

-- a board has registers
some : (v : Variant) (tcxo : Bool) → 0 < length (reader_order v tcxo)
some Sx1272 true = omega arith
some Sx1272 false = omega arith
some Sx1276 true = omega arith
some Sx1276 false = omega arith

-- and none of them rules a link out before it is looked at
pub not_none : (b : Board) (im : List ℕ) (n : ℕ) → Examined b im n → 0 < n
not_none b im zero p = omega (arith, p.last (begins b im), some b.variant b.tcxo_used)
not_none b im (suc n) p = omega arith
