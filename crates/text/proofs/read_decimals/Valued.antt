-- The value of digits, as a loop reads them: what `value` and its callers cite.
use mathlib.Core.Path.{◌≡◌, refl, sym}
use mathlib.Core.Logic.{⊎_elim}
use mathlib.Core.List.{List, [], ◌∷◌}
use mathlib.Core.Bool.{Bool, true, false, cond, true≢false}
use Prim.Native.Nat.{ℕ, ◌+◌, ◌*◌, ◌-◌, ◌≤◌, ◌<◌}
use native.Mathlib.Numerals.{add-one}
use native.Mathlib.Omega.{arith}
use borrow.Author.Tests.{eq-eqb, eqb-true, lt-leb, leb-true}
use lib.Dec.{leb, eqb}
use lib.ListN.{length, drop, get_or, length-drop}
use lib.Seq.{drop-cons, take_all}
use Rattle.std.specs.Prelude.{Result, Ok, Err}
use Rattle.std.specs.List.{starts_with}
use Rattle.text.specs.declared.read_decimals.NumberError.{NumberError}
use Rattle.text.specs.declared.read_decimals.NumberError.TheVariants.{NotDigits, Over}
use Rattle.text.specs.Decimal.{digits, value_from, valued, number_of, positive, negated, signed_of}
use Rattle.text.proofs.reading.Tests.{decided, and_true}

grows : (s : List ℕ) (n : ℕ) → n ≤ value_from s n
grows [] n = omega arith
grows (b ∷ s) n = omega (arith, grows s (n * 10 + (b - 48)))

pub one_more : (s : List ℕ) (i n : ℕ) → i < length s → value_from (drop (i + 1) s) (n * 10 + (get_or s i 0 - 48)) ≡ value_from (drop i s) n
one_more s i n h = rw (add-one i, drop-cons s i 0)

-- what was read so far is too much already
pub too_much : (most : ℕ) (s : List ℕ) (i n : ℕ) → i < length s → value_from (drop i s) n ≡ value_from s 0 → most < n * 10 + (get_or s i 0 - 48) → Err Over ≡ valued most s
unfolding valued
too_much most s i n h e o =
    let g = grows (drop (i + 1) s) (n * 10 + (get_or s i 0 - 48)) in
    let m = one_more s i n h in
    rw (lt-leb (value_from s 0) most (omega arith))

by_most : (most n : ℕ) (t : Bool) → leb n most ≡ t → {k : ℕ} → ◌≡◌ {A = Result ℕ NumberError} (Ok k) (cond t (Ok n) (Err Over)) → k ≤ most
by_most most n true t {k} e = let l = leb-true n most t in let m : k ≡ n = cc in omega arith
by_most most n false t e = absurd (let z : ◌≡◌ {A = ℕ} 0 1 = cc in omega arith)

by_digits : (most n : ℕ) (t : Bool) → {k : ℕ} → ◌≡◌ {A = Result ℕ NumberError} (Ok k) (cond t (cond (leb n most) (Ok n) (Err Over)) (Err NotDigits)) → k ≤ most
by_digits most n true e = by_most most n (leb n most) refl e
by_digits most n false e = absurd (let z : ◌≡◌ {A = ℕ} 0 1 = cc in omega arith)

-- what was read is at most what was asked
pub within : (most : ℕ) (s : List ℕ) {k : ℕ} → Ok k ≡ number_of most s → k ≤ most
unfolding number_of valued
within most s e = by_digits most (value_from s 0) (digits s) e

-- ---- a sign in front

-- the first byte decides
pub minus : (s : List ℕ) → starts_with eqb s (45 ∷ []) ≡ true → signed_of s ≡ negated (number_of 2147483648 (drop 1 s))
unfolding signed_of
minus [] e = absurd (true≢false (sym e))
minus (b ∷ s) e = rw (eq-eqb b 45 (sym (eqb-true 45 b (and_true (eqb 45 b) true e).0)))

pub plain : (s : List ℕ) → starts_with eqb s (45 ∷ []) ≡ false → signed_of s ≡ positive (number_of 2147483647 s)
unfolding signed_of number_of digits
plain [] e = refl
plain (b ∷ s) e =
    ⊎_elim
    (λ (t : eqb b 45 ≡ true). absurd (true≢false (rw (eqb-true b 45 t) at e)))
    (λ (t : eqb b 45 ≡ false). rw t)
    (decided (eqb b 45))

-- what `read_signed` wants, for its digits too, which are a part `&s[1..]`
pub ruleset signs = (minus, plain, within, take_all, length-drop)
