-- What a record is in which no fault is found: a data record at places that are free, or the end record.
use Rattle.std.specs.Prelude.{Ok, Err}
use mathlib.Core.Path.{◌≡◌, refl, ◌∙◌}
use mathlib.Core.Logic.{inl, inr}
use mathlib.Core.Bool.{Bool, true, false, cond, ◌&&◌, not}
use mathlib.Core.List.{List, [], ◌∷◌}
use Prim.Native.Nat.{ℕ, zero, suc, ◌+◌, ◌≤◌, ◌<◌}
use native.Mathlib.Nat.{eq-or-lt_of_le}
use native.Mathlib.Omega.{arith}
use borrow.Author.Tests.{leb-true, ltb-true, eqb-true, eqb-false, not-true}
use lib.Dec.{eqb, leb, ltb}
use lib.ListN.{length}
use Rattle.params.specs.declared.hex_faults.HexFault.{HexFault}
use Rattle.params.specs.declared.hex_faults.HexFault.TheVariants.{Kind, EndHolds, After, Sum, Outside, Twice, Unset}
use Rattle.text.proofs.reading.Tests.{and_true}
use Rattle.intel_hex.specs.Faults.{Judged}
use Rattle.intel_hex.specs.Record.{Record, data_kind, end_kind, address, sum_of, right_sum}
use Rattle.intel_hex.specs.Places.{set_by}
use Rattle.intel_hex.specs.Faults.{unless, otherwise, is_end, end_fault, kind_fault, sum_fault, place_fault, record_fault, Outcome, Records, or_bad, unset_fault, incomplete}
use Rattle.intel_hex.specs.Texts.{end_record}

-- ---- no fault in the whole: none in its parts

pub unless_fine : (t : Bool) (f : HexFault) (next : Judged) → unless t f next ≡ Ok tt → (t ≡ true) × (next ≡ Ok tt)
unless_fine true f next e = (refl, e)
unless_fine false f next e = absurd (let z : ◌≡◌ {A = ℕ} 0 1 = cc in omega arith)

pub otherwise_fine : (j next : Judged) → otherwise j next ≡ Ok tt → (j ≡ Ok tt) × (next ≡ Ok tt)
otherwise_fine (Ok tt) next e = (refl, e)
otherwise_fine (Err f) next e = absurd (let z : ◌≡◌ {A = ℕ} 0 1 = cc in omega arith)

pub not_bad : (n : ℕ) (j : Judged) (next : Outcome) (rs : List Record) → or_bad n j next ≡ Records rs → (j ≡ Ok tt) × (next ≡ Records rs)
not_bad n (Ok tt) next rs e = (refl, e)
not_bad n (Err f) next rs e = absurd (let z : ◌≡◌ {A = ℕ} 0 1 = cc in omega arith)

-- ---- places

pub free : (earlier : List Record) (a : ℕ) (bs : List ℕ) → place_fault earlier a bs ≡ Ok tt
    → (b : ℕ) → a ≤ b → b < a + length bs → (b < 128) × (set_by earlier b ≡ false)
free earlier a [] e b l h = absurd (omega arith)
free earlier a (x ∷ bs) e b l h =
    let next = place_fault earlier (suc a) bs in
    let p = unless_fine (ltb a 128) (Outside a) (unless (not (set_by earlier a)) (Twice a) next) e in
    let q = unless_fine (not (set_by earlier a)) (Twice a) next p.1 in
    elim (eq-or-lt_of_le l) [
      | inl i ↦ rw (← i) (ltb-true a 128 p.0, not-true (set_by earlier a) q.0)
      | inr m ↦ free earlier (suc a) bs q.1 b m (omega arith)
    ]

from_on_set : (rs : List Record) (a n : ℕ) → unset_fault rs a n ≡ Ok tt → (b : ℕ) → a ≤ b → b < a + n → set_by rs b ≡ true
from_on_set rs a zero e b l h = absurd (omega arith)
from_on_set rs a (suc n) e b l h =
    let p = unless_fine (set_by rs a) (Unset a) (unset_fault rs (suc a) n) e in
    elim (eq-or-lt_of_le l) [
      | inl i ↦ rw (← i) p.0
      | inr m ↦ from_on_set rs (suc a) n p.1 b m (omega arith)
    ]

pub every_set : (rs : List Record) → incomplete rs ≡ Ok tt → (b : ℕ) → b < 128 → set_by rs b ≡ true
unfolding incomplete
every_set rs e b h = from_on_set rs 0 128 e b (omega arith) (omega arith)

-- ---- a record

no_bytes : (bs : List ℕ) → length bs ≡ 0 → bs ≡ []
no_bytes [] e = refl
no_bytes (b ∷ bs) e = absurd (omega arith)

abbrev holds_nothing : Record → Bool
holds_nothing r = eqb (length r.bytes) 0 && eqb (address r) 0

abbrev ending : Bool → Record → Judged
ending last r = cond (is_end r) (end_fault (length r.bytes) (address r) last) (Ok tt)

known : (last : Bool) (r : Record) → kind_fault last r ≡ Ok tt → (leb r.kind end_kind ≡ true) × (ending last r ≡ Ok tt)
known last r e = unless_fine (leb r.kind end_kind) (Kind r.kind) (ending last r) e

-- an end record has nothing, and nothing stands behind it
ended : (last : Bool) (r : Record) → ending last r ≡ Ok tt → is_end r ≡ true → (holds_nothing r ≡ true) × (last ≡ true)
ended last r e t =
    let f : end_fault (length r.bytes) (address r) last ≡ Ok tt = rw t at e in
    let p = unless_fine (holds_nothing r) EndHolds (unless last After (Ok tt)) f in
    (p.0, (unless_fine last After (Ok tt) p.1).0)

abbrev placing : List Record → Record → Judged
placing earlier r = cond (is_end r) (Ok tt) (place_fault earlier (address r) r.bytes)

module _ (earlier : List Record) (last : Bool) (r : Record) (fine : record_fault earlier last r ≡ Ok tt) where
  fine_both : (otherwise (kind_fault last r) (sum_fault r) ≡ Ok tt) × (placing earlier r ≡ Ok tt)
  fine_both = otherwise_fine (otherwise (kind_fault last r) (sum_fault r)) (placing earlier r) fine

  fine_first : (kind_fault last r ≡ Ok tt) × (sum_fault r ≡ Ok tt)
  fine_first = otherwise_fine (kind_fault last r) (sum_fault r) fine_both.0

  fine_kinds : (leb r.kind end_kind ≡ true) × (ending last r ≡ Ok tt)
  fine_kinds = known last r fine_first.0

  pub sum_right : r.sum ≡ right_sum r
  sum_right =
      eqb-true r.sum (right_sum r) (unless_fine (eqb r.sum (right_sum r)) (Sum (right_sum r)) (Ok tt) fine_first.1).0

  -- what is no end record is a data record, at places that are free
  module _ (t : is_end r ≡ false) where
    pub data_kind_lem : r.kind ≡ data_kind
    data_kind_lem =
        let l = leb-true r.kind end_kind fine_kinds.0 in
        let n = eqb-false r.kind end_kind t in
        omega arith

    pub data_free : (a : ℕ) → address r ≤ a → a < address r + length r.bytes → (a < 128) × (set_by earlier a ≡ false)
    data_free = free earlier (address r) r.bytes (rw t at fine_both.1)

  -- an end record is the one that there is, and the last line says it
  module _ (t : is_end r ≡ true) where
    pub end_last : last ≡ true
    end_last = (ended last r fine_kinds.1 t).1

    pub end_is : r ≡ end_record
    end_is =
        let h = (ended last r fine_kinds.1 t).0 in
        let p = and_true (eqb (length r.bytes) 0) (eqb (address r) 0) h in
        let a : address r ≡ 0 = eqb-true (address r) 0 p.1 in
        let high : r.high ≡ 0 = omega arith in
        let low : r.low ≡ 0 = omega arith in
        let kind : r.kind ≡ end_kind = eqb-true r.kind end_kind t in
        let bytes : r.bytes ≡ [] = no_bytes r.bytes (eqb-true (length r.bytes) 0 p.0) in
        let sum : r.sum ≡ sum_of (0 ∷ 0 ∷ 0 ∷ end_kind ∷ []) = sum_right ∙ (λ i. sum_of (length (bytes i) ∷ high i ∷ low i ∷ kind i ∷ bytes i)) in
        λ i. record { high = high i; low = low i; kind = kind i; bytes = bytes i; sum = sum i }
