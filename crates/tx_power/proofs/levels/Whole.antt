-- Whole numbers of a range: each is so many above the least, so a fact of all of them is one computed test.
-- Assumes nothing.
use mathlib.Core.Path.{◌≡◌, refl, ap, ◌∙◌}
use mathlib.Core.Bool.{Bool, true, false, cond}
use Prim.Native.Nat.{ℕ, suc, ◌+◌, ◌-◌, ◌^◌, ◌≤◌, ◌<◌}
use native.Mathlib.Omega.{arith}
use borrow.Author.Tests.{ltb-false, lt-ltb, le-ltb}
use lib.Dec.{T, ltb, eqb, eqb→eq, leb→le}
use lib.IntN.{ℤ, pos, negsuc, ◌+ℤ◌, ◌-ℤ◌, +ℤ_comm, +ℤ-neg_ℤ_cancel}
use lib.Signed.{mag, le_z, ◌≤ℤ◌}
use mir.Syntax.{w32}
use mir.Val.{to_z, of_z}
use mir.ValLaws.{to_z-of_z}
use Rattle.sheets.proofs.Sweep.{every, at}

-- an i32 is read back from its bits as it was
pub held : (z : ℤ) → mag z < 2 ^ 31 → to_z w32 (of_z w32 z) ≡ z
held z h = to_z-of_z w32 z (record { sfits = h })

-- so a call is handed the number that another one answered
pub handed : {z w : ℤ} → mag z < 2 ^ 31 → z ≡ w → to_z w32 (of_z w32 z) ≡ w
handed {z} h e = held z h ∙ e

-- z lies `by` above low, and `by` is at most n
pub record Above (low z : ℤ) (n : ℕ) : Type 0 where
  pub by : ℕ
  pub most : by ≤ n
  pub is : z ≡ low +ℤ pos by

-- n - (a + 1) is at least b, by the test that the difference makes
up : (a n b : ℕ) (t : Bool) → ltb n (suc a) ≡ t → T (le_z (pos b) (cond t (negsuc (suc a - suc n)) (pos (n - suc a)))) → suc a + b ≤ n
up a n b true e u = absurd u
up a n b false e u = omega (arith, ltb-false n (suc a) e, leb→le b (n - suc a) u)

-- and at least -(b + 1)
down : (a n b : ℕ) (t : Bool) → ltb n (suc a) ≡ t → T (le_z (negsuc b) (cond t (negsuc (suc a - suc n)) (pos (n - suc a)))) → a - b ≤ n
down a n b true e u = omega (arith, leb→le (suc a - suc n) b u)
down a n b false e u = omega (arith, ltb-false n (suc a) e)

pub above : (low : ℤ) (n : ℕ) (z : ℤ) → low ≤ℤ z → z ≤ℤ (low +ℤ pos n) → Above low z n
above (pos a) n (pos b) l u =
    let h = leb→le a b l.le in
    let k = leb→le b (a + n) u.le in
    record { by = b - a; most = omega arith; is = ap pos (omega arith) }
above (pos a) n (negsuc b) l u = absurd l.le
above (negsuc a) n (pos b) l u =
    record {
      by = suc a + b;
      most = up a n b (ltb n (suc a)) refl u.le;
      is = rw (le-ltb (suc a + b) (suc a) (omega arith)) (ap pos (omega arith));
    }
above (negsuc a) n (negsuc b) l u =
    let h = leb→le b a l.le in
    record {
      by = a - b;
      most = down a n b (ltb n (suc a)) refl u.le;
      is = rw (lt-ltb (a - b) (suc a) (omega arith)) (ap negsuc (omega arith));
    }

-- as far above low as it was put
pub above_is : (low : ℤ) (k : ℕ) → (low +ℤ pos k) -ℤ low ≡ pos k
above_is low k = rw (+ℤ_comm low (pos k)) (+ℤ-neg_ℤ_cancel (pos k) low)

-- a test that passes at each number from low to n above it
pub among_test : (low : ℤ) (n : ℕ) (f : ℤ → Bool) → T (every (λ k. f (low +ℤ pos k)) 0 (suc n)) → (z : ℤ) → low ≤ℤ z → z ≤ℤ (low +ℤ pos n) → T (f z)
among_test low n f t z l u =
    let r = above low n z l u in
    rw r.is (at (λ k. f (low +ℤ pos k)) 0 (suc n) t r.by (omega arith) (omega arith))

-- two functions that are equal at each of them
pub among : (low : ℤ) (n : ℕ) (f g : ℤ → ℕ) → T (every (λ k. eqb (f (low +ℤ pos k)) (g (low +ℤ pos k))) 0 (suc n)) → (z : ℤ)
    → low ≤ℤ z → z ≤ℤ (low +ℤ pos n) → f z ≡ g z
among low n f g t z l u = eqb→eq (f z) (g z) (among_test low n (λ x. eqb (f x) (g x)) t z l u)
