-- A test is true or false; tests that are made together, a test of each element of a text, and what stands past a text's end.
use mathlib.Core.Path.{◌≡◌, refl, sym, ap}
use mathlib.Core.Logic.{◌⊎◌, inl, inr}
use mathlib.Core.List.{List, [], ◌∷◌}
use mathlib.Core.Bool.{Bool, true, false, ◌&&◌, true≢false}
use Prim.Native.Nat.{ℕ, zero, suc, ◌≤◌}
use native.Mathlib.Omega.{arith}
use lib.ListN.{length, get_or}
use Rattle.std.specs.List.{list_all}
use Rattle.text.specs.Words.{all}

pub decided : (t : Bool) → (t ≡ true) ⊎ (t ≡ false)
decided true = inl refl
decided false = inr refl

-- two tests that were made together
pub and_true : (p q : Bool) → (p && q) ≡ true → (p ≡ true) × (q ≡ true)
and_true true q e = (refl, e)
and_true false q e = absurd (true≢false (sym e))

-- what `all` of an iterator answers
pub all_passes : (p : ℕ → Bool) (s : List ℕ) → list_all p s ≡ all p s
all_passes p [] = refl
all_passes p (x ∷ s) = ap (λ (t : Bool). p x && t) (all_passes p s)

-- past the end there is 0
pub past : (s : List ℕ) (i : ℕ) → length s ≤ i → get_or s i 0 ≡ 0
past [] i h = refl
past (x ∷ s) zero h = absurd (omega arith)
past (x ∷ s) (suc i) h = past s i (omega arith)
