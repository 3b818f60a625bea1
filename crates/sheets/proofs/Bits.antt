-- Laws of fields: a field that is put into a byte reads back, and leaves every other field as it was.
-- Assumes nothing.
use mathlib.Core.Path.{◌≡◌, refl, sym, ap, ◌∙◌}
use Prim.Native.Nat.{ℕ, zero, suc, ◌-◌, ◌*◌, ◌/◌, ◌%◌, ◌^◌, ◌<◌}
use native.Mathlib.Omega.{arith}
use lib.Arith.{bin_ind}
use lib.Pow.{shl-shr}
use lib.Bits.{bit_and, bit_or, and_step, or_step, and_comm, and_mask, and_high, or_disjoint, or_zero_r, or_lt, and_le_l}
use native.Mathlib.Nat.{mod-eq_of_lt}
use Rattle.sheets.specs.Bits.{Field, width, mask, others, up, at, get, replaced, put}
use Rattle.sheets.proofs.Sweep.{equal}

-- ---- and, or

pub and_assoc : (a b c : ℕ) → bit_and (bit_and a b) c ≡ bit_and a (bit_and b c)
and_assoc = bin_ind (λ (a : ℕ). (b c : ℕ) → bit_and (bit_and a b) c ≡ bit_and a (bit_and b c)) (λ b c. refl) step
  where
    step : (a : ℕ) → ((b c : ℕ) → bit_and (bit_and (a / 2) b) c ≡ bit_and (a / 2) (bit_and b c)) → (b c : ℕ) → bit_and (bit_and a b) c ≡ bit_and a (bit_and b c)
    step a ih b c =
        let ab = and_step a b in
        let bc = and_step b c in
        let l : bit_and a b / 2 ≡ bit_and (a / 2) (b / 2) = omega arith in
        let r : bit_and b c / 2 ≡ bit_and (b / 2) (c / 2) = omega arith in
        and_step (bit_and a b) c ∙ rw (l, ih (b / 2) (c / 2)) (omega (arith, rw r at (and_step a (bit_and b c))))

pub and_or : (m x y : ℕ) → bit_and m (bit_or x y) ≡ bit_or (bit_and m x) (bit_and m y)
and_or = bin_ind (λ (m : ℕ). (x y : ℕ) → bit_and m (bit_or x y) ≡ bit_or (bit_and m x) (bit_and m y)) (λ x y. refl) step
  where
    step : (m : ℕ) → ((x y : ℕ) → bit_and (m / 2) (bit_or x y) ≡ bit_or (bit_and (m / 2) x) (bit_and (m / 2) y))
        → (x y : ℕ) → bit_and m (bit_or x y) ≡ bit_or (bit_and m x) (bit_and m y)
    step m ih x y =
        let xy = or_step x y in
        let mx = and_step m x in
        let my = and_step m y in
        let o : bit_or x y / 2 ≡ bit_or (x / 2) (y / 2) = omega arith in
        let l : bit_and m x / 2 ≡ bit_and (m / 2) (x / 2) = omega arith in
        let r : bit_and m y / 2 ≡ bit_and (m / 2) (y / 2) = omega arith in
        and_step m (bit_or x y) ∙ rw (o, ih (x / 2) (y / 2)) (omega (arith, rw (l, r) at (or_step (bit_and m x) (bit_and m y))))

-- ---- a byte of which the bits under `keep` stay and to which `new` is put

module _ (keep new b : ℕ) where
  -- what is seen under a mask m
  seen : (m : ℕ) → bit_and m (replaced keep new b) ≡ bit_or (bit_and (bit_and m keep) b) (bit_and m new)
  seen m = rw (and_or m (bit_and keep b) new, and_assoc m keep b)

  pub new_seen : (m : ℕ) → bit_and m keep ≡ 0 → bit_and m new ≡ new → bit_and m (replaced keep new b) ≡ new
  new_seen m k n = rw (seen m, k, n)

  pub kept_seen : (m : ℕ) → bit_and m keep ≡ m → bit_and m new ≡ 0 → bit_and m (replaced keep new b) ≡ bit_and m b
  kept_seen m k n = rw (seen m, k, n) (or_zero_r (bit_and m b))

-- ---- fields

complement : (m : ℕ) → m < 256 → bit_and m (255 - m) ≡ 0
complement m h = equal 0 256 (λ k. bit_and k (255 - k)) (λ k. 0) tt m (omega arith) (omega arith)

-- bits that are clear of a byte n are in the rest
outside : (m n : ℕ) → m < 256 → n < 256 → bit_and m n ≡ 0 → bit_and m (255 - n) ≡ m
outside m n h k e =
    let whole : bit_or n (255 - n) ≡ 255 = or_disjoint n (255 - n) (complement n k) ∙ omega arith in
    let split : bit_and m 255 ≡ bit_and m (255 - n) = ap (bit_and m) (sym whole) ∙ and_or m n (255 - n) ∙ rw e in
    sym split ∙ and_mask m 8 ∙ mod-eq_of_lt h

up_is : (k v : ℕ) → up k v ≡ v * 2 ^ k
up_is zero v = omega arith
up_is (suc k) v = refl

-- what a field holds, in its place
in_place : (f : Field) (b : ℕ) → bit_and (mask f) b ≡ at f (get f b)
in_place f b = and_comm (mask f) b ∙ and_high b (width f) f.low ∙ sym (up_is f.low (get f b))

at_down : (f : Field) (v : ℕ) → at f v / 2 ^ f.low ≡ v
at_down f v = ap (λ (x : ℕ). x / 2 ^ f.low) (up_is f.low v) ∙ shl-shr v f.low

same_place : (f : Field) (v w : ℕ) → at f v ≡ at f w → v ≡ w
same_place f v w e = sym (at_down f v) ∙ ap (λ (x : ℕ). x / 2 ^ f.low) e ∙ at_down f w

-- a value that fits the field stays within it
within : (f : Field) (v : ℕ) → v < 2 ^ width f → bit_and (mask f) (at f v) ≡ at f v
within f v h = in_place f (at f v) ∙ ap (at f) (ap (λ (x : ℕ). x % 2 ^ width f) (at_down f v) ∙ mod-eq_of_lt h)

module _ (f : Field) (v b : ℕ) (inside : mask f < 256) (fits : v < 2 ^ width f) where
  pub reads_back : get f (put f v b) ≡ v
  reads_back = same_place f _ v (sym (in_place f (put f v b)) ∙ new_seen (others f) (at f v) b (mask f) (complement (mask f) inside) (within f v fits))

  -- another field, which has no bit in common with it
  pub leaves : (g : Field) → mask g < 256 → bit_and (mask g) (mask f) ≡ 0 → get g (put f v b) ≡ get g b
  leaves g h apart =
      let clear : bit_and (mask g) (at f v) ≡ 0 = rw (← within f v fits, ← and_assoc (mask g) (mask f) (at f v), apart) in
      let seen = kept_seen (others f) (at f v) b (mask g) (outside (mask g) (mask f) h inside apart) clear in
      same_place g _ _ (sym (in_place g (put f v b)) ∙ seen ∙ in_place g b)

  pub in_byte : put f v b < 256
  in_byte =
      let kept = and_le_l (others f) b in
      let new = and_le_l (mask f) (at f v) in
      or_lt 8 (bit_and (others f) b) (at f v) (omega arith) (omega (arith, within f v fits))
