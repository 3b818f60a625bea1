-- Every text that the definition accepts is read, and leaves the image that it sets.
use Rattle.std.specs.Prelude.{Ok}
use mathlib.Core.Path.{◌≡◌, refl, sym, ap, ◌∙◌}
use mathlib.Core.Logic.{⊎_elim}
use mathlib.Core.Bool.{Bool, true, false, cond}
use mathlib.Core.List.{List, [], ◌∷◌, append-nil}
use Prim.Native.Nat.{ℕ, suc, ◌+◌, ◌<◌}
use native.Mathlib.Omega.{arith}
use borrow.Author.Tests.{eq-eqb, lt-ltb, ltb-true}
use lib.Dec.{eqb, ltb}
use lib.ListN.{length, get_or}
use Rattle.text.specs.Fields.{parts}
use Rattle.text.proofs.reading.Parts.{some}
use Rattle.text.proofs.reading.Tests.{decided}
use Rattle.intel_hex.specs.Faults.{Judged}
use Rattle.intel_hex.specs.Record.{Record, lf, data_kind, address, sum_of, right_sum, record_in}
use Rattle.intel_hex.specs.Places.{has, set_by, value_in, image_of}
use Rattle.intel_hex.specs.Faults.{Outcome, Records, otherwise, form_fault, is_end, place_fault, record_fault, line_fault, incomplete, or_bad, nothing, outcome_from, outcome}
use Rattle.intel_hex.specs.Texts.{Line, Lines, end, more, end_record, Fits, All, none, also, times, Sets}
use Rattle.intel_hex.specs.Calls.{read_answer, read_leaves}
use Rattle.intel_hex.proofs.Bodies.{body_of, says_record, right_form}
use Rattle.intel_hex.proofs.Addresses.{has_within, fits_value, never, once_set, placed, complete, image_is}

-- ---- a record that is right

data_fine : (earlier : List Record) (last : Bool) (r : Record) → r.kind ≡ data_kind → r.sum ≡ right_sum r
    → place_fault earlier (address r) r.bytes ≡ Ok tt → record_fault earlier last r ≡ Ok tt
data_fine earlier last r k s p = rw (eq-eqb r.sum (right_sum r) s, k, p)

end_fine : (earlier : List Record) → record_fault earlier true end_record ≡ Ok tt
unfolding sum_of
end_fine earlier = refl

-- ---- one line of it

module _ (n : ℕ) (earlier : List Record) (body m : List ℕ) (ls : List (List ℕ)) (r : Record) (says : record_in body ≡ r) (form : form_fault body ≡ Ok tt) where
  line_fine : record_fault earlier (nothing (m ∷ ls)) r ≡ Ok tt → line_fault earlier (nothing (m ∷ ls)) body ≡ Ok tt
  line_fine f =
      let last = nothing (m ∷ ls) in
      ap (λ (j : Judged). otherwise j (record_fault earlier last (record_in body))) form ∙ ap (record_fault earlier last) says ∙ f

  one_line : record_fault earlier (nothing (m ∷ ls)) r ≡ Ok tt
      → outcome_from n earlier (body ∷ m ∷ ls) ≡ cond (is_end r) (or_bad n (incomplete earlier) (Records earlier)) (outcome_from (suc n) (r ∷ earlier) (m ∷ ls))
  one_line f =
      let after : Record → Outcome = λ q. cond (is_end q) (or_bad n (incomplete earlier) (Records earlier)) (outcome_from (suc n) (q ∷ earlier) (m ∷ ls)) in
      ap (λ (j : Judged). or_bad n j (after (record_in body))) (line_fine f) ∙ ap after says

-- ---- the walk, behind some of the records

-- these records and those before them set each address once, and those before them set it as the image has it
record SoFar (image : List ℕ) (earlier rs : List Record) : Type 0 where
  once : (a : ℕ) → times earlier a + times rs a ≡ cond (ltb a 128) 1 0
  value : (a : ℕ) → set_by earlier a ≡ true → value_in earlier a ≡ get_or image a 0

record Accepts (image : List ℕ) (o : Outcome) : Type 0 where
  records : List Record
  is : o ≡ Records records
  leaves : image_of records ≡ image

module _ (image : List ℕ) where
  module _ (earlier rs : List Record) (r : Record) (s : SoFar image earlier (r ∷ rs)) where
    -- a place of the next record is below 128 and not set
    free : (a : ℕ) → has r a ≡ true → (a < 128) × (set_by earlier a ≡ false)
    free a h =
        let o : times earlier a + (1 + times rs a) ≡ cond (ltb a 128) 1 0 = rw h at (s.once a) in
        ⊎_elim
        (λ (t : ltb a 128 ≡ true). let e : times earlier a + (1 + times rs a) ≡ 1 = rw t at o in
        (ltb-true a 128 t, never earlier a (omega arith)))
        (λ (t : ltb a 128 ≡ false). absurd (let e : times earlier a + (1 + times rs a) ≡ 0 = rw t at o in omega arith))
        (decided (ltb a 128))

    one_more : Fits image r → SoFar image (r ∷ earlier) rs
    one_more f =
        record {
          once = λ a. let o = s.once a in omega arith;
          value = λ a e. ⊎_elim
              (λ (h : has r a ≡ true). rw h (fits_value image r f a h))
              (λ (h : has r a ≡ false). rw h (s.value a (rw h at e)))
              (decided (has r a));
        }

    fine : (last : Bool) → Fits image r → record_fault earlier last r ≡ Ok tt
    fine last f =
        data_fine earlier last r f.kind f.sum
        (placed earlier (address r) r.bytes (λ b l m. free b (has_within r b l m)))

  module _ (size : length image ≡ 128) where
    at_end : (n : ℕ) (earlier : List Record) (line : List ℕ) → Line end_record line → SoFar image earlier [] → Accepts image (outcome_from n earlier (parts lf line))
    at_end n earlier line l s =
        let b = body_of l in
        let e : parts lf line ≡ b.body ∷ [] ∷ [] = rw (append-nil line) at (b.first []) in
        let set : (a : ℕ) → a < 128 → set_by earlier a ≡ true = λ a h. once_set earlier a (let o : times earlier a + 0 ≡ 1 = rw (lt-ltb a 128 h) at (s.once a) in omega arith) in
        record {
          records = earlier;
          is = ap (outcome_from n earlier) e ∙ one_line n earlier b.body [] [] end_record (says_record b) (right_form b) (end_fine earlier)
              ∙ ap (λ (j : Judged). or_bad n j (Records earlier)) (complete earlier set);
          leaves = image_is earlier image size (λ a h. s.value a (set a h));
        }

    walked : {rs : List Record} {text : List ℕ} → Lines rs text → (n : ℕ) (earlier : List Record) → All (Fits image) rs → SoFar image earlier rs
        → Accepts image (outcome_from n earlier (parts lf text))
    walked (end {line} l) n earlier none s = at_end n earlier line l s
    walked (more {r} {rs} {line} {text} l ls) n earlier (also f fs) s =
        let b = body_of l in
        let p = some lf text in
        let w = walked ls (suc n) (r ∷ earlier) fs (one_more earlier rs r s f) in
        record {
          records = w.records;
          is = ap (outcome_from n earlier) (b.first text ∙ ap (λ (ps : List (List ℕ)). b.body ∷ ps) p.are)
              ∙ one_line n earlier b.body p.first p.rest r (says_record b) (right_form b) (fine earlier rs r s (nothing (p.first ∷ p.rest)) f)
              ∙ ap (λ (k : ℕ). cond (eqb k 1) (or_bad n (incomplete earlier) (Records earlier)) (outcome_from (suc n) (r ∷ earlier) (p.first ∷ p.rest))) f.kind
              ∙ ap (outcome_from (suc n) (r ∷ earlier)) (sym p.are)
              ∙ w.is;
          leaves = w.leaves;
        }

-- ---- from the start

accepts : (text image : List ℕ) → Sets text image → Accepts image (outcome text)
unfolding outcome
accepts text image s =
    walked image s.size s.lines 1 [] s.fit
    (record { once = λ a. let o = s.once a in omega arith; value = λ a e. let z : false ≡ true = e in cc })

pub accepted : (text image lent : List ℕ) → Sets text image → length lent ≡ 128 → (read_answer text (length lent) ≡ Ok tt) × (read_leaves text lent ≡ image)
unfolding read_answer read_leaves
accepted text image lent s l =
    let a = accepts text image s in
    let t = eq-eqb (length lent) 128 l in
    (rw (t, a.is), rw (t, a.is) a.leaves)
