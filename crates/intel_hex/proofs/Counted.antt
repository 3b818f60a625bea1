-- The bytes of a record whose count is right: how many they are, and what the sum is over.
use mathlib.Core.Path.{◌≡◌, sym, ap, ◌∙◌}
use mathlib.Core.Bool.{true}
use mathlib.Core.List.{List, [], ◌∷◌}
use Prim.Native.Nat.{ℕ, suc, ◌+◌, ◌*◌, ◌≤◌, ◌<◌}
use native.Mathlib.Omega.{arith}
use borrow.Author.Tests.{eqb-true}
use lib.ListN.{length, take, drop, get_or, length-drop}
use lib.Seq.{length-take-le, get_or-take, get_or-drop}
use Rattle.intel_hex.specs.Record.{Record, is_counted, record_of, summed, said}
use Rattle.intel_hex.proofs.Said.{length_said}
use Rattle.intel_hex.proofs.Bytes.{small_at, small_said}

-- four bytes, and so many more
front : (bs : List ℕ) (n : ℕ) → 4 ≤ length bs → take (n + 4) bs ≡ get_or bs 0 0 ∷ get_or bs 1 0 ∷ get_or bs 2 0 ∷ get_or bs 3 0 ∷ take n (drop 4 bs)
front [] n h = absurd (omega arith)
front (a ∷ []) n h = absurd (omega arith)
front (a ∷ b ∷ []) n h = absurd (omega arith)
front (a ∷ b ∷ c ∷ []) n h = absurd (omega arith)
front (a ∷ b ∷ c ∷ d ∷ bs) n h = let e : n + 4 ≡ suc (suc (suc (suc n))) = omega arith in rw e

module _ (bs : List ℕ) (h : is_counted bs ≡ true) where
  pub size : length bs ≡ get_or bs 0 0 + 5
  size = eqb-true (length bs) (get_or bs 0 0 + 5) h

  pub many : length (record_of bs).bytes ≡ get_or bs 0 0
  many =
      let l : get_or bs 0 0 ≤ length (drop 4 bs) = rw length-drop (let s = size in omega arith) in
      length-take-le (get_or bs 0 0) (drop 4 bs) l

  pub sums : summed (record_of bs) ≡ take (get_or bs 0 0 + 4) bs
  sums = let s = size in rw (many, front bs (get_or bs 0 0) (omega arith))

-- its byte i stands behind count, address and type
pub byte_of : (bs : List ℕ) (i : ℕ) → i < get_or bs 0 0 → get_or (record_of bs).bytes i 0 ≡ get_or bs (i + 4) 0
byte_of bs i h =
    let e : 4 + i ≡ i + 4 = omega arith in
    get_or-take (get_or bs 0 0) (drop 4 bs) i 0 h ∙ get_or-drop 4 bs i 0 ∙ rw e

-- a record has at most 255 bytes
pub few : (ds : List ℕ) → is_counted (said ds) ≡ true → length (record_of (said ds)).bytes < 256
few ds h = let m = many (said ds) h in let s = small_at (said ds) (small_said ds) 0 in omega arith

-- what its count is, told by the record
pub counted_by : (ds : List ℕ) (r : Record) (n : ℕ) → is_counted (said ds) ≡ true → record_of (said ds) ≡ r → n ≡ length r.bytes → n ≡ get_or (said ds) 0 0
counted_by ds r n h e l = l ∙ ap (λ (q : Record). length q.bytes) (sym e) ∙ many (said ds) h

-- the digits are long enough for each byte
pub inside : (ds : List ℕ) (k : ℕ) → is_counted (said ds) ≡ true → k < get_or (said ds) 0 0 + 5 → 2 * k + 1 < length ds
inside ds k h l = let s = size (said ds) h in let n = length_said ds in omega arith
