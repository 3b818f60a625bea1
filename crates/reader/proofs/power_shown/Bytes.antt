-- What a byte of RegPaConfig shows, each as one test of all 256.
-- Assumes nothing.
use mathlib.Core.Path.{◌≡◌, refl}
use mathlib.Core.Bool.{Bool, true, false, cond}
use Prim.Native.Nat.{ℕ, ◌+◌, ◌/◌, ◌%◌, ◌^◌, ◌<◌}
use native.Mathlib.Omega.{arith}
use borrow.Author.Tests.{eq-eqb, ne_eqb}
use lib.Dec.{eqb, ltb, ltb→lt}
use lib.IntN.{pos, ◌-ℤ◌}
use lib.Signed.{mag}
use mir.Syntax.{w32}
use mir.Val.{to_z, of_z}
use Rattle.sheets.specs.declared.Variant.{Variant}
use Rattle.sheets.specs.declared.Variant.TheVariants.{Sx1272, Sx1276}
use Rattle.sheets.proofs.Sweep.{at, agree}
use Rattle.tx_power.proofs.levels.Whole.{held}
use Rattle.page.specs.Lora.{shown, shown_with}

module _ (x : ℕ) (b : x < 256) where
  pub boosted_72 : to_z w32 (x % 16 + 2) ≡ shown Sx1272 true x
  unfolding shown
  boosted_72 = agree 0 256 (λ k. to_z w32 (k % 16 + 2)) (shown Sx1272 true) tt x (omega arith) (omega arith)

  pub boosted_76 : to_z w32 (x % 32 + 2) ≡ shown Sx1276 true x
  unfolding shown
  boosted_76 = agree 0 256 (λ k. to_z w32 (k % 32 + 2)) (shown Sx1276 true) tt x (omega arith) (omega arith)

  pub rfo_72 : (pos (x % 16) -ℤ pos 1) ≡ shown Sx1272 false x
  unfolding shown
  rfo_72 = agree 0 256 (λ k. pos (k % 16) -ℤ pos 1) (shown Sx1272 false) tt x (omega arith) (omega arith)

  pub strong_72 : (d : ℕ) → d % 8 ≡ 7 → to_z w32 (x % 16 + 5) ≡ shown_with Sx1272 true x d
  unfolding shown_with
  strong_72 d e = rw (eq-eqb (d / 1 % 8) 7 (omega arith)) (agree 0 256 (λ k. to_z w32 (k % 16 + 5)) (λ k. pos (k / 1 % 16 + 5)) tt x (omega arith) (omega arith))

  pub weak_72 : (d : ℕ) → (d % 8 ≡ 7 → ⊥) → to_z w32 (x % 16 + 2) ≡ shown_with Sx1272 true x d
  unfolding shown_with
  weak_72 d n = rw (ne_eqb (d / 1 % 8) 7 (λ e. n (omega arith))) (agree 0 256 (λ k. to_z w32 (k % 16 + 2)) (λ k. pos (k / 1 % 16 + 2)) tt x (omega arith) (omega arith))

  -- RFO shows the power whatever RegPaDac holds
  pub with_rfo : (d : ℕ) → shown_with Sx1272 false x d ≡ shown Sx1272 false x
  unfolding shown_with
  with_rfo d = refl

  fits : (v : Variant) (boost : Bool) → mag (shown v boost x) < 2 ^ 31
  unfolding shown
  fits Sx1272 true = ltb→lt _ (2 ^ 31) (at (λ k. ltb (mag (shown Sx1272 true k)) (2 ^ 31)) 0 256 tt x (omega arith) (omega arith))
  fits Sx1272 false = ltb→lt _ (2 ^ 31) (at (λ k. ltb (mag (shown Sx1272 false k)) (2 ^ 31)) 0 256 tt x (omega arith) (omega arith))
  fits Sx1276 true = ltb→lt _ (2 ^ 31) (at (λ k. ltb (mag (shown Sx1276 true k)) (2 ^ 31)) 0 256 tt x (omega arith) (omega arith))
  fits Sx1276 false = ltb→lt _ (2 ^ 31) (at (λ k. ltb (mag (shown Sx1276 false k)) (2 ^ 31)) 0 256 tt x (omega arith) (omega arith))

  -- it is passed on as bits, and is the same number there
  pub shown_held : (v : Variant) (boost : Bool) → to_z w32 (of_z w32 (shown v boost x)) ≡ shown v boost x
  shown_held v boost = held (shown v boost x) (fits v boost)

-- any power that the boosted SX1272 shows with RegPaDac is passed on as it is
with_fits : (x d : ℕ) (boost : Bool) → x < 256 → mag (shown_with Sx1272 boost x d) < 2 ^ 31
unfolding shown_with
with_fits x d true b = by (eqb (d / 1 % 8) 7)
  where
    by : (t : Bool) → mag (pos (x / 1 % 16 + cond t 5 2)) < 2 ^ 31
    by true = omega arith
    by false = omega arith
with_fits x d false b = fits x b Sx1272 false

pub with_held : (x d : ℕ) (boost : Bool) → x < 256 → to_z w32 (of_z w32 (shown_with Sx1272 boost x d)) ≡ shown_with Sx1272 boost x d
with_held x d boost b = held (shown_with Sx1272 boost x d) (with_fits x d boost b)
