-- Our layout is a right text that sets the image which was written, so reading it gives that image back.
use Rattle.std.specs.Prelude.{Ok}
use mathlib.Core.Path.{◌≡◌, refl, sym, ap, ap₂, subst}
use mathlib.Core.Logic.{inl, ⊎_elim}
use mathlib.Core.Bool.{true, false, cond}
use mathlib.Core.List.{List, [], ◌∷◌, ◌++◌, append_assoc}
use Prim.Native.Nat.{ℕ, zero, suc, ◌+◌, ◌*◌, ◌≤◌, ◌<◌}
use native.Mathlib.Omega.{arith}
use borrow.Author.Tests.{ltb-true, ltb-false}
use lib.Dec.{ltb}
use lib.ListN.{length, get_or, take, drop, length-append, length-drop}
use lib.Seq.{length-take-le}
use Rattle.text.specs.declared.hex.Case.TheVariants.{Upper}
use Rattle.text.specs.Numbers.{hex}
use Rattle.text.proofs.reading.Tests.{decided}
use Rattle.intel_hex.specs.Record.{Record, lf, data_kind, end_kind, sum_of, fields}
use Rattle.intel_hex.specs.Places.{has}
use Rattle.intel_hex.specs.Texts.{Line, Lines, end, more, end_record, Fits, All, none, also, times, Sets}
use Rattle.intel_hex.specs.Layout.{row, rows, line_text, lines_text, rows_text, layout}
use Rattle.intel_hex.specs.Calls.{read_answer, read_leaves}
use Rattle.intel_hex.proofs.Bytes.{Small, small_of, small_take, small_drop, small_append, small_sum, hex_length, hex_pairs_lem, hex_says}
use Rattle.intel_hex.proofs.Bodies.{five_more}
use Rattle.intel_hex.proofs.Addresses.{has_within, has_not}
use Rattle.intel_hex.proofs.Accepted.{accepted}

-- ---- records as our lines

line_size : (r : Record) → length (line_text r) ≡ 2 * length r.bytes + 12
line_size r =
    let e : length (line_text r) ≡ suc (length (hex Upper (fields r)) + 1) = ap suc (length-append (hex Upper (fields r)) (lf ∷ [])) in
    let h : length (hex Upper (fields r)) ≡ 2 * length (fields r) = hex_length 65 (fields r) in
    let f = five_more r in
    omega arith

line_of : (r : Record) → Small (fields r) → Line r (line_text r)
line_of r s =
    record {
      digits = hex Upper (fields r);
      ending = lf ∷ [];
      pairs = hex_pairs_lem (fields r) s;
      says = hex_says (fields r) s;
      ends = inl refl;
      is = refl;
    }

small_end : Small (fields end_record)
small_end = (omega arith, (omega arith, (omega arith, (omega arith, (small_sum (0 ∷ 0 ∷ 0 ∷ end_kind ∷ []), tt)))))

lines_of : {rs : List Record} → All (λ r. Small (fields r)) rs → Lines rs (lines_text rs ++ line_text end_record)
lines_of none = end (line_of end_record small_end)
lines_of (also {r} {rs} s ss) =
    subst (Lines (r ∷ rs)) (sym (append_assoc (line_text r) (lines_text rs) (line_text end_record))) (more (line_of r s) (lines_of ss))

-- ---- the rows of an image

module _ (image : List ℕ) where
  abbrev row_at : ℕ → Record
  row_at a = row a (take 16 (drop a image))

  sixteen : (a : ℕ) → a + 16 ≤ length image → length (take 16 (drop a image)) ≡ 16
  sixteen a h = length-take-le 16 (drop a image) (rw (length-drop a image) (omega arith))

  each_row : (P : Record → Type 0) → ((a : ℕ) → a + 16 ≤ length image → P (row_at a)) → (n a : ℕ) → a + 16 * n ≤ length image → All P (rows n a image)
  each_row P p zero a h = none
  each_row P p (suc n) a h = also (p a (omega arith)) (each_row P p n (a + 16) (omega arith))

  row_fits : (a : ℕ) → a + 16 ≤ length image → Fits image (row_at a)
  row_fits a h =
      let e = sixteen a h in
      record {
        kind = refl;
        sum = ap (λ (k : ℕ). sum_of (k ∷ 0 ∷ a ∷ data_kind ∷ take 16 (drop a image))) (sym e);
        bytes = ap₂ (λ (k b : ℕ). take k (drop b image)) (sym e) (let z : a ≡ 0 * 256 + a = omega arith in z);
      }

  row_small : length image ≤ 256 → Small image → (a : ℕ) → a + 16 ≤ length image → Small (fields (row_at a))
  row_small l s a h =
      let e = sixteen a h in
      let bs = take 16 (drop a image) in
      (omega arith, (omega arith, (omega arith, (omega arith, small_append bs ((row_at a).sum ∷ []) (small_take 16 (drop a image) (small_drop a image s)) (small_sum (16 ∷ 0 ∷ a ∷ data_kind ∷ bs), tt)))))

  -- ---- their text's length

  rows_size : (n a : ℕ) → a + 16 * n ≤ length image → length (lines_text (rows n a image)) ≡ 44 * n
  rows_size zero a h = refl
  rows_size (suc n) a h =
      let e = length-append (line_text (row_at a)) (lines_text (rows n (a + 16) image)) in
      let l = line_size (row_at a) in
      let b = sixteen a (omega arith) in
      let r = rows_size n (a + 16) (omega arith) in
      omega arith

  whole_size : (n : ℕ) → 16 * n ≤ length image → length (lines_text (rows n 0 image) ++ line_text end_record) ≡ 44 * n + 12
  whole_size n h =
      let e = length-append (lines_text (rows n 0 image)) (line_text end_record) in
      let r = rows_size n 0 (omega arith) in
      omega arith

  -- ---- they have each address once

  before_rows : (n a b : ℕ) → a + 16 * n ≤ length image → b < a → times (rows n a image) b ≡ 0
  before_rows zero a b h l = refl
  before_rows (suc n) a b h l =
      let e : has (row_at a) b ≡ false = has_not (row_at a) b (λ x y. omega arith) in
      let r = before_rows n (a + 16) b (omega arith) (omega arith) in
      rw e (omega arith)

  behind_rows : (n a b : ℕ) → a + 16 * n ≤ length image → a + 16 * n ≤ b → times (rows n a image) b ≡ 0
  behind_rows zero a b h l = refl
  behind_rows (suc n) a b h l =
      let s = sixteen a (omega arith) in
      let e : has (row_at a) b ≡ false = has_not (row_at a) b (λ x y. omega arith) in
      let r = behind_rows n (a + 16) b (omega arith) (omega arith) in
      rw e (omega arith)

  in_rows : (n a b : ℕ) → a + 16 * n ≤ length image → a ≤ b → b < a + 16 * n → times (rows n a image) b ≡ 1
  in_rows zero a b h l m = absurd (omega arith)
  in_rows (suc n) a b h l m =
      let s = sixteen a (omega arith) in
      ⊎_elim
      (λ (t : ltb b (a + 16) ≡ true).
      let u = ltb-true b (a + 16) t in
      let e : has (row_at a) b ≡ true = has_within (row_at a) b (omega arith) (omega arith) in
      let r = before_rows n (a + 16) b (omega arith) u in
      rw e (omega arith))
      (λ (t : ltb b (a + 16) ≡ false).
      let u = ltb-false b (a + 16) t in
      let e : has (row_at a) b ≡ false = has_not (row_at a) b (λ x y. omega arith) in
      let r = in_rows n (a + 16) b (omega arith) u (omega arith) in
      rw e (omega arith))
      (decided (ltb b (a + 16)))

  rows_once : (n : ℕ) → 16 * n ≤ length image → (b : ℕ) → times (rows n 0 image) b ≡ cond (ltb b (16 * n)) 1 0
  rows_once n h b =
      ⊎_elim
      (λ (t : ltb b (16 * n) ≡ true). let u = ltb-true b (16 * n) t in rw t (in_rows n 0 b (omega arith) (omega arith) (omega arith)))
      (λ (t : ltb b (16 * n) ≡ false). let u = ltb-false b (16 * n) t in rw t (behind_rows n 0 b (omega arith) (omega arith)))
      (decided (ltb b (16 * n)))

-- ---- the layout

pub layout_size_lem : (image : List ℕ) → length image ≡ 128 → length (layout image) ≡ 364
unfolding layout rows_text
layout_size_lem image l = whole_size image 8 (omega arith)

pub layout_sets : (image : List ℕ) → length image ≡ 128 → ((i : ℕ) → get_or image i 0 < 256) → Sets (layout image) image
unfolding layout rows_text
layout_sets image l s =
    record {
      records = rows 8 0 image;
      lines = lines_of (each_row image (λ r. Small (fields r)) (row_small image (omega arith) (small_of image s)) 8 0 (omega arith));
      fit = each_row image (Fits image) (row_fits image) 8 0 (omega arith);
      once = rows_once image 8 (omega arith);
      size = l;
    }

pub read_back : (image lent : List ℕ) → length image ≡ 128 → ((i : ℕ) → get_or image i 0 < 256) → length lent ≡ 128
    → (read_answer (layout image) (length lent) ≡ Ok tt) × (read_leaves (layout image) lent ≡ image)
read_back image lent l s m = accepted (layout image) image lent (layout_sets image l s) m
