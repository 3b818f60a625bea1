-- Decimal numbers as text: one digit more, and a sign in front.
use mathlib.Core.Path.{◌≡◌, refl}
use mathlib.Core.Bool.{true, false}
use mathlib.Core.List.{List, [], ◌∷◌, ◌++◌, append_assoc}
use Prim.Native.Nat.{ℕ, zero, suc, ◌+◌, ◌*◌, ◌/◌, ◌%◌, ◌^◌, ◌≤◌, ◌<◌}
use native.Mathlib.Nat.{pow-suc}
use native.Mathlib.Omega.{arith}
use borrow.Author.Tests.{lt-ltb, le-ltb, ltb-true}
use lib.IntN.{ℤ, pos, negsuc, nat_abs}
use lib.ListN.{length, drop, set, length-set}
use lib.Seq.{drop-cons, get_or-set_same, drop-set-lt}
use lib.Signed.{lt_z}
use Rattle.text.specs.Numbers.{decimal_from, decimal, signed}

-- ---- decimal digits, from the last one on

-- a byte stored is the first of what stands from its place on
here : (p : List ℕ) (f x : ℕ) → f < length p → drop f (set p f x) ≡ x ∷ drop (suc f) p
here p f x h = rw (drop-cons (set p f x) f 0 (simp length-set h), get_or-set_same, drop-set-lt (suc f) p f x (omega arith))

-- the digits that are left to spell, and those that stand from `from` on
abbrev pub spelling : ℕ → ℕ → List ℕ → List ℕ
spelling from rest place = decimal_from from rest ++ drop from place

-- one digit more
pub digit_more : (f n : ℕ) (p : List ℕ) → 9 < n → f < length p → spelling f (n / 10) (set p f (48 + n % 10)) ≡ spelling (suc f) n p
digit_more f n p h l =
    rw (le-ltb n 10 (omega arith), here p f (48 + n % 10) l, append_assoc)

-- the first digit
pub digit_last : (f n : ℕ) (p : List ℕ) → n < 10 → f < length p → drop f (set p f (48 + n)) ≡ spelling (suc f) n p
digit_last f n p h l = rw (lt-ltb n 10 h, here p f (48 + n) l)

-- what is left has its places
pub fewer : (f n : ℕ) → 9 < n → n < 10 ^ suc f → (1 ≤ f) × (n / 10 < 10 ^ f)
fewer zero n h l = absurd (omega arith)
fewer (suc f) n h l = let q : n < 10 ^ suc f * 10 = rw (pow-suc 10 (suc f)) at l in (omega arith, omega arith)

-- ---- a sign in front

pub below_zero : (z : ℤ) → lt_z z (pos 0) ≡ true → signed z ≡ (45 ∷ []) ++ decimal (nat_abs z)
below_zero (pos n) e = absurd (let h = ltb-true n 0 e in omega arith)
below_zero (negsuc n) e = refl

pub from_zero : (z : ℤ) → lt_z z (pos 0) ≡ false → signed z ≡ decimal (nat_abs z)
from_zero (pos n) e = refl
from_zero (negsuc n) e = absurd (let z : ◌≡◌ {A = ℕ} 0 1 = cc in omega arith)
