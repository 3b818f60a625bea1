-- Digits and the bytes that they say: no digit ends a line, what they say is below 256, and digits that are written say their bytes.
use mathlib.Core.Path.{◌≡◌, refl, sym, ap, ap₂, ◌∙◌}
use mathlib.Core.Bool.{Bool, true, false, cond, true≢false}
use mathlib.Core.List.{List, [], ◌∷◌, ◌++◌}
use Prim.Native.Nat.{ℕ, zero, suc, ◌+◌, ◌*◌, ◌-◌, ◌/◌, ◌%◌, ◌≤◌, ◌<◌}
use native.Mathlib.Omega.{arith}
use borrow.Author.Tests.{eq-eqb, ne_eqb}
use lib.Dec.{eqb}
use lib.ListN.{length, take, drop, get_or}
use Rattle.text.specs.declared.hex.Case.TheVariants.{Upper}
use Rattle.text.specs.Words.{all}
use Rattle.text.specs.Decimal.{is_digit}
use Rattle.text.specs.Hex.{is_letter, is_nibble, nibble, any_digit, worth}
use Rattle.text.specs.Numbers.{hex_digit, hex_from, hex}
use Rattle.text.proofs.hex.Pairs.{bounds}
use Rattle.sheets.proofs.Sweep.{equal, alike}
use Rattle.intel_hex.specs.Record.{sum_of, hex_pairs, said}

-- a digit is no byte that is none
pub no_digit : (b c : ℕ) → any_digit b ≡ true → any_digit c ≡ false → eqb b c ≡ false
no_digit b c d e = ne_eqb b c (λ i. true≢false (sym d ∙ ap any_digit i ∙ e))

-- ---- numbers that are bytes

abbrev pub Small : List ℕ → Type 0
Small [] = Unit {0}
Small (b ∷ bs) = (b < 256) × Small bs

pub small_of : (bs : List ℕ) → ((i : ℕ) → get_or bs i 0 < 256) → Small bs
small_of [] h = tt
small_of (b ∷ bs) h = (h 0, small_of bs (λ i. h (suc i)))

pub small_at : (bs : List ℕ) → Small bs → (i : ℕ) → get_or bs i 0 < 256
small_at [] s i = omega arith
small_at (b ∷ bs) s zero = s.0
small_at (b ∷ bs) s (suc i) = small_at bs s.1 i

pub small_take : (n : ℕ) (bs : List ℕ) → Small bs → Small (take n bs)
small_take zero bs s = tt
small_take (suc n) [] s = tt
small_take (suc n) (b ∷ bs) s = (s.0, small_take n bs s.1)

pub small_drop : (n : ℕ) (bs : List ℕ) → Small bs → Small (drop n bs)
small_drop zero bs s = s
small_drop (suc n) [] s = tt
small_drop (suc n) (b ∷ bs) s = small_drop n bs s.1

pub small_append : (bs cs : List ℕ) → Small bs → Small cs → Small (bs ++ cs)
small_append [] cs s t = t
small_append (b ∷ bs) cs s t = (s.0, small_append bs cs s.1 t)

pub small_front : (bs cs : List ℕ) → Small (bs ++ cs) → Small bs
small_front [] cs s = tt
small_front (b ∷ bs) cs s = (s.0, small_front bs cs s.1)

pub small_sum : (bs : List ℕ) → sum_of bs < 256
unfolding sum_of
small_sum bs = omega arith

-- ---- what digits say

either_most : (t : Bool) (x y m : ℕ) → (t ≡ true → x ≤ m) → (t ≡ false → y ≤ m) → cond t x y ≤ m
either_most true x y m h k = h refl
either_most false x y m h k = k refl

nibble_most : (a b : ℕ) → nibble a b ≤ 15
nibble_most a b =
    either_most (is_digit b) (b - 48) (cond (is_letter a b) (b - a + 10) 0) 15
    (λ d. let l = bounds 48 b b 57 d in omega arith)
    (λ d. either_most (is_letter a b) (b - a + 10) 0 15 (λ e. let l = bounds a b (b - a) 5 e in omega arith) (λ e. omega arith))

worth_most : (b : ℕ) → worth b ≤ 15
worth_most b = either_most (is_nibble 65 b) (nibble 65 b) (nibble 97 b) 15 (λ e. nibble_most 65 b) (λ e. nibble_most 97 b)

pub small_said : (ds : List ℕ) → Small (said ds)
small_said [] = tt
small_said (h ∷ []) = tt
small_said (h ∷ l ∷ ds) = let x = worth_most h in let y = worth_most l in (omega arith, small_said ds)

-- ---- digits that are written

digit_says : (d : ℕ) → d < 16 → worth (hex_digit 65 d) ≡ d
digit_says d h = equal 0 16 (λ k. worth (hex_digit 65 k)) (λ k. k) tt d (omega arith) (omega arith)

digit_is : (d : ℕ) → d < 16 → any_digit (hex_digit 65 d) ≡ true
digit_is d h = alike 0 16 (λ k. any_digit (hex_digit 65 k)) (λ k. true) tt d (omega arith) (omega arith)

pub hex_length : (a : ℕ) (bs : List ℕ) → length (hex_from a bs) ≡ 2 * length bs
hex_length a [] = refl
hex_length a (b ∷ bs) = let e = hex_length a bs in omega arith

hex_digits_lem : (bs : List ℕ) → Small bs → all any_digit (hex_from 65 bs) ≡ true
hex_digits_lem [] s = refl
hex_digits_lem (b ∷ bs) s =
    let l : b < 256 = s.0 in
    rw (digit_is (b / 16) (omega arith), digit_is (b % 16) (omega arith)) (hex_digits_lem bs s.1)

pub hex_pairs_lem : (bs : List ℕ) → Small bs → hex_pairs (hex Upper bs) ≡ true
unfolding hex_pairs
hex_pairs_lem bs s =
    let e = hex_length 65 bs in
    rw (eq-eqb (length (hex_from 65 bs) % 2) 0 (omega arith)) (hex_digits_lem bs s)

pub hex_says : (bs : List ℕ) → Small bs → said (hex Upper bs) ≡ bs
hex_says [] s = refl
hex_says (b ∷ bs) s =
    let l : b < 256 = s.0 in
    let h : worth (hex_digit 65 (b / 16)) ≡ b / 16 = digit_says (b / 16) (omega arith) in
    let o : worth (hex_digit 65 (b % 16)) ≡ b % 16 = digit_says (b % 16) (omega arith) in
    let e : worth (hex_digit 65 (b / 16)) * 16 + worth (hex_digit 65 (b % 16)) ≡ b = rw (h, o) (omega arith) in
    ap₂ (λ (x : ℕ) (xs : List ℕ). x ∷ xs) e (hex_says bs s.1)
