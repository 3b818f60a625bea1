-- What a walk holds: the places tell the faults that the records give, and a record more is held where its bytes are put.
use Rattle.std.specs.Prelude.{Ok, Option, Some, None, is_none, is_some}
use Rattle.std.specs.Option.{unwrap_or}
use mathlib.Core.Path.{◌≡◌, refl, sym, ap, ◌∙◌}
use mathlib.Core.Logic.{⊎_elim}
use mathlib.Core.Bool.{Bool, true, false, cond, ◌||◌, not}
use mathlib.Core.List.{List, [], ◌∷◌}
use Prim.Native.Nat.{ℕ, zero, suc, ◌+◌, ◌-◌, ◌≤◌, ◌<◌}
use native.Mathlib.Omega.{arith}
use borrow.Author.Tests.{ltb-true, eqb-true, eqb-false}
use lib.Dec.{eqb, ltb}
use lib.ListN.{length, get_or, set, replicate, length-replicate, get_or-replicate}
use lib.Seq.{ext_get_or, get_or-set_same, get_or-set_other}
use Rattle.text.proofs.reading.Tests.{decided}
use Rattle.params.specs.declared.hex_faults.HexFault.TheVariants.{Outside, Twice, Unset}
use Rattle.intel_hex.specs.Record.{Record}
use Rattle.intel_hex.specs.Places.{has, set_by, value_in, image_of}
use Rattle.intel_hex.specs.Faults.{unless, place_fault, unset_fault, incomplete}
use Rattle.intel_hex.proofs.Addresses.{image_is}
use Rattle.intel_hex.proofs.Faultless.{unless_fine}
use Rattle.intel_hex.specs.Reading.{byte_in, Holds, taken_fault, free_fault, free_in, Puts, shown}

-- with no record no place is set
pub empty : Holds [] (replicate {A = Option ℕ} 128 None)
empty =
    record {
      many = length-replicate {A = Option ℕ} 128 None;
      byte = λ a l. get_or-replicate {A = Option ℕ} 128 a None None l;
    }

-- ---- loops over places

pub next_taken : (places : List (Option ℕ)) (a end : ℕ) → a < end
    → taken_fault places a (end - a) ≡ unless (ltb a 128) (Outside a) (unless (is_none (get_or places a None)) (Twice a) (taken_fault places (a + 1) (end - (a + 1))))
next_taken places a end h =
    let e : end - a ≡ suc (end - (a + 1)) = omega arith in
    let f : a + 1 ≡ suc a = omega arith in
    rw (e, f)

pub next_free : (places : List (Option ℕ)) (a most : ℕ) → a < most → free_fault places a (most - a) ≡ unless (is_some (get_or places a None)) (Unset a) (free_fault places (a + 1) (most - (a + 1)))
next_free places a most h =
    let e : most - a ≡ suc (most - (a + 1)) = omega arith in
    let f : a + 1 ≡ suc a = omega arith in
    rw (e, f)

pub all_free : (places : List (Option ℕ)) (n : ℕ) → n ≡ 128 → free_fault places 0 n ≡ free_in places
unfolding free_in
all_free places n e = ap (free_fault places 0) e

-- ---- places and records

-- where nothing is wrong, the bytes have room
pub roomy : (places : List (Option ℕ)) (a n : ℕ) → taken_fault places a n ≡ Ok tt → 0 < n → a + n ≤ 128
roomy places a zero e h = absurd (omega arith)
roomy places a (suc n) e h =
    let p = unless_fine (ltb a 128) (Outside a) (unless (is_none (get_or places a None)) (Twice a) (taken_fault places (suc a) n)) e in
    let q = unless_fine (is_none (get_or places a None)) (Twice a) (taken_fault places (suc a) n) p.1 in
    onward n (ltb-true a 128 p.0) (roomy places (suc a) n q.1)
  where
    onward : (m : ℕ) → a < 128 → (0 < m → suc a + m ≤ 128) → a + suc m ≤ 128
    onward zero l k = omega arith
    onward (suc m) l k = let r = k (omega arith) in omega arith

free_place : (t : Bool) (b : ℕ) → is_none (cond t (Some b) None) ≡ not t
free_place true b = refl
free_place false b = refl

set_place : (t : Bool) (b : ℕ) → is_some (cond t (Some b) None) ≡ t
set_place true b = refl
set_place false b = refl

-- 0 stands where no record sets a byte
unset_zero : (rs : List Record) (a : ℕ) → unwrap_or (byte_in rs a) 0 ≡ value_in rs a
unset_zero [] a = refl
unset_zero (r ∷ rs) a =
    ⊎_elim
    (λ (t : has r a ≡ true). rw t)
    (λ (t : has r a ≡ false). rw t (unset_zero rs a))
    (decided (has r a))

shown_length : (places : List (Option ℕ)) → length (shown places) ≡ length places
shown_length [] = refl
shown_length (None ∷ places) = ap suc (shown_length places)
shown_length (Some b ∷ places) = ap suc (shown_length places)

pub shown_at : (places : List (Option ℕ)) (a : ℕ) → get_or (shown places) a 0 ≡ unwrap_or (get_or places a None) 0
shown_at [] a = refl
shown_at (None ∷ places) zero = refl
shown_at (Some b ∷ places) zero = refl
shown_at (None ∷ places) (suc a) = shown_at places a
shown_at (Some b ∷ places) (suc a) = shown_at places a

module _ (image : List ℕ) (places : List (Option ℕ)) where
  -- one byte more is shown
  pub one_shown : (a v : ℕ) → a < length image → v ≡ unwrap_or (get_or places a None) 0 → ((k : ℕ) → k < a → get_or image k 0 ≡ get_or (shown places) k 0)
      → (k : ℕ) → k < a + 1 → get_or (set image a v) k 0 ≡ get_or (shown places) k 0
  one_shown a v l e h k m =
      ⊎_elim
      (λ (t : eqb k a ≡ true). let i = eqb-true k a t in rw (i, get_or-set_same image a v 0 l, e) (sym (shown_at places a)))
      (λ (t : eqb k a ≡ false). let d = eqb-false k a t in rw (get_or-set_other image a k v 0 d) (h k (omega (arith, d))))
      (decided (eqb k a))

  pub all_shown : length image ≡ length places → ((k : ℕ) → k < length image → get_or image k 0 ≡ get_or (shown places) k 0) → image ≡ shown places
  all_shown e h = ext_get_or 0 image (shown places) (e ∙ sym (shown_length places)) h

module _ (rs : List Record) (places : List (Option ℕ)) (h : Holds rs places) where
  -- what the places tell of so many bytes is what the records tell of them
  pub taken_as_set : (a : ℕ) (bs : List ℕ) → taken_fault places a (length bs) ≡ place_fault rs a bs
  taken_as_set a [] = refl
  taken_as_set a (b ∷ bs) =
      ⊎_elim
      (λ (t : ltb a 128 ≡ true). rw (t, h.byte a (ltb-true a 128 t), free_place (set_by rs a) (value_in rs a), taken_as_set (suc a) bs))
      (λ (t : ltb a 128 ≡ false). rw t)
      (decided (ltb a 128))

  free_as_unset : (a n : ℕ) → a + n ≤ 128 → free_fault places a n ≡ unset_fault rs a n
  free_as_unset a zero l = refl
  free_as_unset a (suc n) l =
      rw (h.byte a (omega arith), set_place (set_by rs a) (value_in rs a), free_as_unset (suc a) n (omega arith))

  pub free_as_incomplete : free_in places ≡ incomplete rs
  unfolding free_in incomplete
  free_as_incomplete = free_as_unset 0 128 (omega arith)

  pub image_held : shown places ≡ image_of rs
  image_held =
      sym
      (image_is rs (shown places) (shown_length places ∙ h.many)
      (λ a l. sym (shown_at places a ∙ ap (λ (b : Option ℕ). unwrap_or b 0) (h.byte a l) ∙ unset_zero rs a)))

  -- a record more
  either : (t u : Bool) (b c : ℕ) → ◌≡◌ {A = Option ℕ} (cond t (Some b) (cond u (Some c) None)) (cond (t || u) (Some (cond t b c)) None)
  either true u b c = refl
  either false u b c = refl

  pub holds_more : (r : Record) (places' : List (Option ℕ)) → Puts r places places' → Holds (r ∷ rs) places'
  holds_more r places' p =
      record {
        many = p.many ∙ h.many;
        byte = λ a l. p.byte a ∙ rw (h.byte a l) (either (has r a) (set_by rs a) _ (value_in rs a));
      }
