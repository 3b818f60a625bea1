-- A test that is computed at each number of a range, and the laws that turn it into a fact of each of them.
-- Assumes nothing.
use mathlib.Core.Path.{◌≡◌, refl, ap, subst}
use mathlib.Core.Logic.{inl, inr}
use mathlib.Core.Bool.{Bool, true, false, not, ◌&&◌}
use Prim.Native.Nat.{ℕ, zero, suc, ◌+◌, ◌≤◌, ◌<◌}
use native.Mathlib.Nat.{eq-or-lt_of_le}
use native.Mathlib.Omega.{arith}
use lib.Dec.{T, eqb, eqb→eq}
use lib.IntN.{ℤ, pos, negsuc}

pub both : (a b : Bool) → T (a && b) → T a × T b
both true b t = (tt, t)
both false b t = absurd t

pub joined : (a b : Bool) → T a → T b → T (a && b)
joined true b p q = q
joined false b p q = p

-- the test passes at each of the n numbers from a on
abbrev pub every : (ℕ → Bool) → ℕ → ℕ → Bool
every f a zero = true
every f a (suc n) = f a && every f (suc a) n

past : (a k : ℕ) → a ≤ k → k < a + zero → ⊥
past a k h l = omega arith

pub at : (f : ℕ → Bool) (a n : ℕ) → T (every f a n) → (k : ℕ) → a ≤ k → k < a + n → T (f k)
at f a zero t k h l = absurd (past a k h l)
at f a (suc n) t k h l =
    let p = both (f a) (every f (suc a) n) t in
    elim (eq-or-lt_of_le h) [
      | inl e ↦ subst (λ (m : ℕ). T (f m)) e p.0
      | inr m ↦ at f (suc a) n p.1 k m (omega arith)
    ]

-- two functions that are equal at each number of a range
pub equal : (a n : ℕ) (f g : ℕ → ℕ) → T (every (λ k. eqb (f k) (g k)) a n) → (k : ℕ) → a ≤ k → k < a + n → f k ≡ g k
equal a n f g t k h l = eqb→eq (f k) (g k) (at (λ i. eqb (f i) (g i)) a n t k h l)

-- at each pair and each triple of numbers below bounds
pub equal₂ : (m n : ℕ) (f g : ℕ → ℕ → ℕ) → T (every (λ i. every (λ j. eqb (f i j) (g i j)) 0 n) 0 m) → (i j : ℕ) → i < m → j < n → f i j ≡ g i j
equal₂ m n f g t i j h k = equal 0 n (f i) (g i) (at (λ x. every (λ y. eqb (f x y) (g x y)) 0 n) 0 m t i (omega arith) (omega arith)) j (omega arith) (omega arith)

pub equal₃ : (l m n : ℕ) (f g : ℕ → ℕ → ℕ → ℕ) → T (every (λ h. every (λ i. every (λ j. eqb (f h i j) (g h i j)) 0 n) 0 m) 0 l)
    → (h i j : ℕ) → h < l → i < m → j < n → f h i j ≡ g h i j
equal₃ l m n f g t h i j u =
    equal₂ m n (f h) (g h) (at (λ x. every (λ y. every (λ z. eqb (f x y z) (g x y z)) 0 n) 0 m) 0 l t h (omega arith) (omega arith)) i j

-- and two tests
abbrev pub same : Bool → Bool → Bool
same true b = b
same false b = not b

pub same→eq : (a b : Bool) → T (same a b) → a ≡ b
same→eq true true t = refl
same→eq true false t = absurd t
same→eq false true t = absurd t
same→eq false false t = refl

pub alike : (a n : ℕ) (f g : ℕ → Bool) → T (every (λ k. same (f k) (g k)) a n) → (k : ℕ) → a ≤ k → k < a + n → f k ≡ g k
alike a n f g t k h l = same→eq (f k) (g k) (at (λ i. same (f i) (g i)) a n t k h l)

-- and two functions to whole numbers
abbrev pub sameℤ : ℤ → ℤ → Bool
sameℤ (pos a) (pos b) = eqb a b
sameℤ (pos a) (negsuc b) = false
sameℤ (negsuc a) (pos b) = false
sameℤ (negsuc a) (negsuc b) = eqb a b

pub sameℤ→eq : (y z : ℤ) → T (sameℤ y z) → y ≡ z
sameℤ→eq (pos a) (pos b) t = ap pos (eqb→eq a b t)
sameℤ→eq (pos a) (negsuc b) t = absurd t
sameℤ→eq (negsuc a) (pos b) t = absurd t
sameℤ→eq (negsuc a) (negsuc b) t = ap negsuc (eqb→eq a b t)

pub agree : (a n : ℕ) (f g : ℕ → ℤ) → T (every (λ k. sameℤ (f k) (g k)) a n) → (k : ℕ) → a ≤ k → k < a + n → f k ≡ g k
agree a n f g t k h l = sameℤ→eq (f k) (g k) (at (λ i. sameℤ (f i) (g i)) a n t k h l)
