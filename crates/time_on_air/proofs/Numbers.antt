-- The number of a field, read digit after digit: it is held where the field is a number, and is the field's own up to 2^32.
-- Assumes nothing.
use mathlib.Core.Path.{◌≡◌, refl}
use mathlib.Core.Logic.{⊎_elim}
use mathlib.Core.Bool.{Bool, true, false, cond, ◌&&◌}
use mathlib.Core.List.{List, [], ◌∷◌}
use Prim.Native.Nat.{ℕ, suc, ◌+◌, ◌*◌, ◌-◌, ◌≤◌, ◌<◌}
use native.Mathlib.Omega.{arith}
use borrow.Author.Tests.{lt-ltb, leb-true, ltb-true, ltb-false, eqb-true, eqb-false, ne_eqb}
use lib.Dec.{eqb, leb, ltb}
use lib.ListN.{length}
use Rattle.text.specs.Words.{all}
use Rattle.text.specs.Decimal.{is_digit, digits, value_from}
use Rattle.time_on_air.specs.Lines.{is_number}
use Rattle.time_on_air.specs.Onward.{held_from}
use Rattle.text.proofs.reading.Tests.{decided}
use Rattle.time_on_air.proofs.Tests.{and_false, and_true}
use Rattle.time_on_air.proofs.Caps.{cap}
use Rattle.time_on_air.proofs.fields.Digit.{both}

-- what is held of a field: one more than a number that is `value` up to 2^32, or nothing where the test fails
pub record Holds (held : ℕ) (right : Bool) (value : ℕ) : Type 0 where
  pub number : ℕ
  pub is : held ≡ cond right (suc number) 0
  pub near : cap number ≡ cap value

nothing : (value : ℕ) → Holds 0 false value
nothing value = record { number = value; is = refl; near = refl }

-- ---- behind a first digit that is not 0

-- one digit more of a number that is held
grows : (v n d : ℕ) → v < 4294967296 → cap v ≡ cap n → cap (v * 10 + d) ≡ cap (n * 10 + d)
grows v n d l e = let i : v ≡ n = omega arith in rw i

stays : (v n d : ℕ) → 4294967296 ≤ v → cap v ≡ cap n → cap v ≡ cap (n * 10 + d)
stays v n d l e = let i : 4294967296 ≤ n = omega arith in omega arith

behind_first : (f : List ℕ) (v n : ℕ) → 0 < v → cap v ≡ cap n → Holds (held_from (suc v) f) (all is_digit f) (value_from f n)
behind_first [] v n h e = record { number = v; is = refl; near = e }
behind_first (b ∷ f) v n h e =
    let z : eqb (suc v) 1 ≡ false = ne_eqb (suc v) 1 (λ i. omega arith) in
    ⊎_elim
    (λ (g : is_digit b ≡ true). rw (z, g) (⊎_elim
    (λ (l : ltb v 4294967296 ≡ true). rw l (behind_first f (v * 10 + (b - 48)) (n * 10 + (b - 48)) (omega arith) (grows v n (b - 48) (ltb-true v 4294967296 l) e)))
    (λ (l : ltb v 4294967296 ≡ false). rw l (behind_first f v (n * 10 + (b - 48)) h (stays v n (b - 48) (ltb-false v 4294967296 l) e)))
    (decided (ltb v 4294967296))))
    (λ (g : is_digit b ≡ false). rw (z, g) (nothing (value_from f (n * 10 + (b - 48)))))
    (decided (is_digit b))

-- ---- a whole field

-- a digit behind a 0, whatever follows it
after_zero : (g : List ℕ) → Holds (held_from 1 g) (all is_digit g && eqb (suc (length g)) 1) (value_from g 0)
after_zero [] = record { number = 0; is = refl; near = refl }
after_zero (x ∷ g) =
    let t = all is_digit (x ∷ g) in
    let e : eqb (suc (suc (length g))) 1 ≡ false = ne_eqb (suc (suc (length g))) 1 (λ i. omega arith) in
    rw (e, and_false t) (nothing (value_from (x ∷ g) 0))

pub number : (f : List ℕ) → Holds (held_from 0 f) (is_number f) (value_from f 0)
unfolding is_number digits
number [] = nothing 0
number (b ∷ g) =
    let s : ltb 0 (suc (length g)) ≡ true = lt-ltb 0 (suc (length g)) (omega arith) in
    ⊎_elim
    (λ (d : is_digit b ≡ true). ⊎_elim
    (λ (z : eqb b 48 ≡ true). rw (s, eqb-true b 48 z) (after_zero g))
    (λ (z : eqb b 48 ≡ false). rw (s, d, z, and_true (all is_digit g)) (behind_first g (b - 48) (0 * 10 + (b - 48)) (first d z) (omega arith)))
    (decided (eqb b 48)))
    (λ (d : is_digit b ≡ false). rw (s, d) (nothing (value_from g (0 * 10 + (b - 48)))))
    (decided (is_digit b))
  where
    first : is_digit b ≡ true → eqb b 48 ≡ false → 0 < b - 48
    first d z =
        let l : 48 ≤ b = leb-true 48 b (both (leb 48 b) (leb b 57) d).0 in
        let n = eqb-false b 48 z in
        omega arith
