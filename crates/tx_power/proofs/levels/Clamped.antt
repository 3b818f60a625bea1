-- A power that is held to a range lies in it, and is not changed by being held to it again.
-- Assumes nothing.
use mathlib.Core.Path.{◌≡◌, refl, subst}
use mathlib.Core.Bool.{Bool, true, false, cond}
use Prim.Native.Nat.{ℕ, suc}
use native.Mathlib.Omega.{arith}
use borrow.Author.Tests.{le-ltb}
use lib.Dec.{T, eqb, leb→le}
use lib.IntN.{ℤ, pos, negsuc, ◌+ℤ◌}
use lib.Signed.{lt_z, ◌≤ℤ◌, le_z_yes, lt_z_no, ≤ℤ_refl}
use Rattle.sheets.specs.declared.Variant.{Variant}
use Rattle.sheets.specs.declared.Variant.TheVariants.{Sx1272, Sx1276}
use Rattle.sheets.specs.Power.{least, most, clamped, pa_config, pa_dac, ocp}
use Rattle.tx_power.specs.Ranges.{bounded, InRange}
use Rattle.sheets.proofs.Sweep.{every}
use Rattle.tx_power.proofs.levels.Whole.{Above, above, among_test, among}

-- a test that failed
at_least : (low z : ℤ) → lt_z z low ≡ false → low ≤ℤ z
at_least low z e = lt_z_no (rw e tt)

not_below : (low z : ℤ) → low ≤ℤ z → lt_z z low ≡ false
not_below (pos a) (pos b) h = le-ltb b a (leb→le a b h.le)
not_below (pos a) (negsuc b) h = absurd h.le
not_below (negsuc a) (pos b) h = refl
not_below (negsuc a) (negsuc b) h = le-ltb a b (leb→le b a h.le)

module _ (low high p : ℤ) (ordered : low ≤ℤ high) where
  by_tests : (t s : Bool) → lt_z p low ≡ t → lt_z high p ≡ s → (low ≤ℤ cond t low (cond s high p)) × (cond t low (cond s high p) ≤ℤ high)
  by_tests true s e d = (≤ℤ_refl low, ordered)
  by_tests false true e d = (ordered, ≤ℤ_refl high)
  by_tests false false e d = (at_least low p e, at_least p high d)

  bounded_range : (low ≤ℤ bounded low high p) × (bounded low high p ≤ℤ high)
  bounded_range = by_tests (lt_z p low) (lt_z high p) refl refl

  pub bounded_above : (n : ℕ) → high ≤ℤ (low +ℤ pos n) → Above low (bounded low high p) n
  bounded_above n h =
      let m = above low n high ordered h in
      let k = above low m.by (bounded low high p) bounded_range.0 (subst (λ (z : ℤ). bounded low high p ≤ℤ z) m.is bounded_range.1) in
      record { by = k.by; most = omega arith; is = k.is }

ranges : (v : Variant) (boost : Bool) → least v boost ≤ℤ most boost
ranges v true = le_z_yes tt
ranges Sx1272 false = le_z_yes tt
ranges Sx1276 false = le_z_yes tt

clamped_range : (v : Variant) (boost : Bool) (p : ℤ) → InRange v boost (clamped v boost p)
unfolding clamped
clamped_range v boost p = bounded_range (least v boost) (most boost) p (ranges v boost)

-- a power in the range is taken as it is
kept : (v : Variant) (boost : Bool) (c : ℤ) → InRange v boost c → clamped v boost c ≡ c
unfolding clamped
kept v boost c h = rw (not_below (least v boost) c h.0, not_below c (most boost) h.1)

pub again : (v : Variant) (boost : Bool) (p : ℤ) → clamped v boost (clamped v boost p) ≡ clamped v boost p
again v boost p = kept v boost (clamped v boost p) (clamped_range v boost p)

-- what the registers hold by the clamped power c is what they hold by the power that was asked
module _ (v : Variant) (boost : Bool) (p : ℤ) {c : ℤ} (is : c ≡ clamped v boost p) where
  pub config_of : pa_config v boost c ≡ pa_config v boost p
  unfolding pa_config
  config_of = rw (is, again v boost p)

  pub dac_of_lem : pa_dac v boost c ≡ pa_dac v boost p
  unfolding pa_dac
  dac_of_lem = rw (is, again v boost p)

pub ocp_of : (boost : Bool) (p : ℤ) {c : ℤ} → c ≡ clamped Sx1276 boost p → ocp boost c ≡ ocp boost p
unfolding ocp
ocp_of boost p is = rw (is, again Sx1276 boost p)

-- how far the range of an output goes
abbrev span : Variant → Bool → ℕ
span v true = 18
span Sx1272 false = 15
span Sx1276 false = 18

ends : (v : Variant) (boost : Bool) → most boost ≡ least v boost +ℤ pos (span v boost)
ends v true = refl
ends Sx1272 false = refl
ends Sx1276 false = refl

-- two functions that are equal at each power of an output
pub same_at : (v : Variant) (boost : Bool) (f g : ℤ → ℕ) → T (every (λ k. eqb (f (least v boost +ℤ pos k)) (g (least v boost +ℤ pos k))) 0 (suc (span v boost)))
    → (p : ℤ) → f (clamped v boost p) ≡ g (clamped v boost p)
same_at v boost f g t p =
    let r = clamped_range v boost p in
    among (least v boost) (span v boost) f g t (clamped v boost p) r.0 (subst (λ (z : ℤ). clamped v boost p ≤ℤ z) (ends v boost) r.1)

-- a test that passes at each power of each output
pub at_clamped : (f : Variant → Bool → ℤ → Bool)
    → T (every (λ k. f Sx1272 true (pos 2 +ℤ pos k)) 0 19) → T (every (λ k. f Sx1272 false (negsuc 0 +ℤ pos k)) 0 16)
    → T (every (λ k. f Sx1276 true (pos 2 +ℤ pos k)) 0 19) → T (every (λ k. f Sx1276 false (negsuc 3 +ℤ pos k)) 0 19)
    → (v : Variant) (boost : Bool) (p : ℤ) → T (f v boost (clamped v boost p))
at_clamped f a b c d Sx1272 true p = let r = clamped_range Sx1272 true p in among_test (pos 2) 18 (f Sx1272 true) a (clamped Sx1272 true p) r.0 r.1
at_clamped f a b c d Sx1272 false p = let r = clamped_range Sx1272 false p in among_test (negsuc 0) 15 (f Sx1272 false) b (clamped Sx1272 false p) r.0 r.1
at_clamped f a b c d Sx1276 true p = let r = clamped_range Sx1276 true p in among_test (pos 2) 18 (f Sx1276 true) c (clamped Sx1276 true p) r.0 r.1
at_clamped f a b c d Sx1276 false p = let r = clamped_range Sx1276 false p in among_test (negsuc 3) 18 (f Sx1276 false) d (clamped Sx1276 false p) r.0 r.1
