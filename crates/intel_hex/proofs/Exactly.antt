-- A text that is read is a right text, and sets the image that it leaves: with `accepted`, just the right texts are read.
use Rattle.std.specs.Prelude.{Ok}
use mathlib.Core.Path.{◌≡◌, refl, sym, ap, subst, ◌∙◌}
use mathlib.Core.Logic.{⊎_elim}
use mathlib.Core.Bool.{Bool, true, false, cond, true≢false}
use mathlib.Core.List.{List, [], ◌∷◌, ◌++◌, append_assoc}
use Prim.Native.Nat.{ℕ, zero, suc, ◌+◌, ◌-◌, ◌≤◌, ◌<◌}
use native.Mathlib.Omega.{arith}
use borrow.Author.Tests.{eq-eqb, lt-ltb, ltb-true}
use lib.Dec.{ltb}
use lib.ListN.{length, get_or, take, drop, length-drop}
use lib.Seq.{length-take-le, get_or-take, get_or-drop, ext_get_or}
use Rattle.text.specs.Fields.{parts}
use Rattle.text.proofs.reading.Tests.{decided}
use Rattle.intel_hex.specs.Record.{Record, lf, data_kind, address, right_sum, record_in}
use Rattle.intel_hex.specs.Places.{has, set_by, value_in, image_of}
use Rattle.intel_hex.specs.Faults.{Outcome, Records, Bad, is_end, form_fault, record_fault, line_fault, incomplete, or_bad, nothing, outcome_from, outcome}
use Rattle.intel_hex.specs.Texts.{Line, Lines, end, more, end_record, Fits, All, none, also, times, Once, Sets}
use Rattle.intel_hex.specs.Calls.{answered, read_answer, read_leaves}
use Rattle.intel_hex.proofs.Addresses.{has_within, within, never, no_times, image_length, image_at}
use Rattle.intel_hex.proofs.Faultless.{otherwise_fine, not_bad, every_set, sum_right, data_kind_lem, data_free, end_last, end_is}
use Rattle.intel_hex.proofs.Cuts.{cut, no_text, line_of}

-- ---- records that set no address twice, and none from 128 on

abbrev Apart : List Record → Type 0
Apart rs = (a : ℕ) → times rs a ≤ cond (ltb a 128) 1 0

-- these records set a record's places, to its bytes
abbrev Shows : List Record → Record → Type 0
Shows rs r = (a : ℕ) → has r a ≡ true → (a < 128) × (0 < times rs a) × (value_in rs a ≡ get_or r.bytes (a - address r) 0)

map_all : {P Q : Record → Type 0} {rs : List Record} → ((r : Record) → P r → Q r) → All P rs → All Q rs
map_all f none = none
map_all f (also {r} p ps) = also (f r p) (map_all f ps)

at_most : (t : Bool) (n : ℕ) → 1 + n ≤ cond t 1 0 → (t ≡ true) × (n ≡ 0)
at_most true n h = (refl, omega arith)
at_most false n h = absurd (omega arith)

module _ (r : Record) (rs : List Record) (k : Apart (r ∷ rs)) where
  -- the first record has this address, so no other has it
  alone : (a : ℕ) → has r a ≡ true → (a < 128) × (times rs a ≡ 0)
  alone a h =
      let b = at_most (ltb a 128) (times rs a) (rw h at (k a)) in
      (ltb-true a 128 b.0, b.1)

  first_shown : Shows (r ∷ rs) r
  first_shown a h = ((alone a h).0, rw h (omega arith), rw h)

  still_shown : (q : Record) → Shows rs q → Shows (r ∷ rs) q
  still_shown q s a h =
      let p = s a h in
      let m : 0 < times rs a = p.1 in
      ⊎_elim
      (λ (t : has r a ≡ true). absurd (let z = (alone a t).1 in omega arith))
      (λ (t : has r a ≡ false). (p.0, omega arith, rw t p.2))
      (decided (has r a))

shown : (rs : List Record) → Apart rs → All (Shows rs) rs
shown [] k = none
shown (r ∷ rs) k = also (first_shown r rs k) (map_all (still_shown r rs k) (shown rs (λ a. let h = k a in omega arith)))

-- one record more, at places that are free
apart_more : (r : Record) (rs : List Record) → Apart rs → ((a : ℕ) → has r a ≡ true → (a < 128) × (set_by rs a ≡ false)) → Apart (r ∷ rs)
apart_more r rs k f a =
    ⊎_elim
    (λ (t : has r a ≡ true). let p = f a t in let z = no_times rs a p.1 in rw (t, lt-ltb a 128 p.0) (omega arith))
    (λ (t : has r a ≡ false). let h = k a in rw t (omega arith))
    (decided (has r a))

once : (rs : List Record) → Apart rs → ((a : ℕ) → a < 128 → set_by rs a ≡ true) → Once rs
once rs k s a =
    let h = k a in
    ⊎_elim
    (λ (t : ltb a 128 ≡ true).
    let u : times rs a ≤ 1 = rw t at h in
    let v : set_by rs a ≡ true = s a (ltb-true a 128 t) in
    let w : ¬ (times rs a ≡ 0) = λ z. true≢false (sym v ∙ never rs a z) in
    rw t (omega arith))
    (λ (t : ltb a 128 ≡ false). let u : times rs a ≤ 0 = rw t at h in rw t (omega arith))
    (decided (ltb a 128))

-- ---- such a record fits the image that they set

room : (a n : ℕ) → ((i : ℕ) → i < n → a + i < 128) → n ≤ 128 - a
room a zero h = omega arith
room a (suc n) h = let l = h n (omega arith) in omega arith

module _ (rs : List Record) (r : Record) (s : Shows rs r) where
  place : (i : ℕ) → i < length r.bytes → has r (address r + i) ≡ true
  place i h = has_within r (address r + i) (omega arith) (omega arith)

  bytes_fit : r.bytes ≡ take (length r.bytes) (drop (address r) (image_of rs))
  bytes_fit =
      let n = length r.bytes in
      let a = address r in
      let image = image_of rs in
      let long : n ≤ length (drop a image) = rw (length-drop a image, image_length rs) (room a n (λ i h. (s (a + i) (place i h)).0)) in
      ext_get_or 0 r.bytes (take n (drop a image)) (sym (length-take-le n (drop a image) long))
      (λ i h. let p = s (a + i) (place i h) in
      let e : a + i - a ≡ i = omega arith in
      sym (get_or-take n (drop a image) i 0 h ∙ get_or-drop a image i 0 ∙ image_at rs (a + i) p.0 ∙ p.2 ∙ ap (λ (k : ℕ). get_or r.bytes k 0) e))

-- ---- the walk

abbrev Right : Record → Type 0
Right r = (r.kind ≡ data_kind) × (r.sum ≡ right_sum r)

-- what the rest of a text holds, where the whole comes to these records, which the earlier ones are among
record Found (earlier out : List Record) (text : List ℕ) : Type 0 where
  records : List Record
  lines : Lines records text
  right : All Right records
  apart : Apart out
  full : (a : ℕ) → a < 128 → set_by out a ≡ true
  count : (a : ℕ) → times out a ≡ times earlier a + times records a
  among : All (Shows out) out → All (Shows out) earlier × All (Shows out) records

rest_of : {P : Record → Type 0} {r : Record} {rs : List Record} → All P (r ∷ rs) → P r × All P rs
rest_of (also p ps) = (p, ps)

at_end : (n : ℕ) (earlier out : List Record) (text : List ℕ) → Line end_record text → Apart earlier
    → or_bad n (incomplete earlier) (Records earlier) ≡ Records out → Found earlier out text
at_end n earlier out text l k o =
    let p = not_bad n (incomplete earlier) (Records earlier) out o in
    let e : Records earlier ≡ Records out = p.1 in
    let same : earlier ≡ out = cc in
    subst (λ (rs : List Record). Found earlier rs text) same
    (record {
      records = [];
      lines = end l;
      right = none;
      apart = k;
      full = every_set earlier p.0;
      count = λ a. omega arith;
      among = λ s. (s, none);
    })

one_more : (earlier out : List Record) (r : Record) (line text rest : List ℕ) → Line r (line ++ (lf ∷ [])) → text ≡ line ++ (lf ∷ rest) → Right r
    → Found (r ∷ earlier) out rest → Found earlier out text
one_more earlier out r line text rest l e h w =
    record {
      records = r ∷ w.records;
      lines = subst (Lines (r ∷ w.records)) (append_assoc line (lf ∷ []) rest ∙ sym e) (more l w.lines);
      right = also h w.right;
      apart = w.apart;
      full = w.full;
      count = λ a. let c = w.count a in omega arith;
      among = λ s. let p = w.among s in let q = rest_of p.0 in (q.1, also q.0 p.1);
    }

found : (ps : List (List ℕ)) (n : ℕ) (earlier out : List Record) (text : List ℕ) → parts lf text ≡ ps → outcome_from n earlier ps ≡ Records out
    → Apart earlier → Found earlier out text
found [] n earlier out text e o k = absurd (let z : ◌≡◌ {A = ℕ} 0 1 = cc in omega arith)
found (rest ∷ []) n earlier out text e o k = absurd (let z : ◌≡◌ {A = ℕ} 0 1 = cc in omega arith)
found (line ∷ m ∷ ls) n earlier out text e o k =
    let r = record_in line in
    let last = nothing (m ∷ ls) in
    let c = cut text line m ls e in
    let onward = cond (is_end r) (or_bad n (incomplete earlier) (Records earlier)) (outcome_from (suc n) (r ∷ earlier) (m ∷ ls)) in
    let p = not_bad n (line_fault earlier last line) onward out o in
    let j = otherwise_fine (form_fault line) (record_fault earlier last r) p.0 in
    let f = j.1 in
    let l = line_of line j.0 in
    ⊎_elim
    (λ (t : is_end r ≡ true).
    let none-behind : c.rest ≡ [] = no_text c.rest m ls c.others (end_last earlier last r f t) in
    let whole : line ++ (lf ∷ []) ≡ text = ap (λ (s : List ℕ). line ++ (lf ∷ s)) (sym none-behind) ∙ sym c.is in
    let is_end_lem : Line end_record text = subst (Line end_record) whole (subst (λ (q : Record). Line q (line ++ (lf ∷ []))) (end_is earlier last r f t) l) in
    at_end n earlier out text is_end_lem k (rw t at p.1))
    (λ (t : is_end r ≡ false).
    let free : (a : ℕ) → has r a ≡ true → (a < 128) × (set_by earlier a ≡ false) = λ a h. let w = within r a h in data_free earlier last r f t a w.0 w.1 in
    one_more earlier out r line text c.rest l c.is (data_kind_lem earlier last r f t, sum_right earlier last r f)
    (found (m ∷ ls) (suc n) (r ∷ earlier) out c.rest c.others (rw t at p.1) (apart_more r earlier k free)))
    (decided (is_end r))

-- ---- from the start

fits : (out : List Record) {rs : List Record} → All Right rs → All (Shows out) rs → All (Fits (image_of out)) rs
fits out none none = none
fits out (also {r} p ps) (also s ss) = also (record { kind = p.0; sum = p.1; bytes = bytes_fit out r s }) (fits out ps ss)

sets : (text : List ℕ) (out : List Record) → Found [] out text → Sets text (image_of out)
sets text out w =
    record {
      records = w.records;
      lines = w.lines;
      fit = fits out w.right (w.among (shown out w.apart)).1;
      once = λ a. let c = w.count a in let o = once out w.apart w.full a in omega arith;
      size = image_length out;
    }

read_records : (o : Outcome) → answered o ≡ Ok tt → (rs : List Record) × (o ≡ Records rs)
read_records (Records rs) e = (rs, refl)
read_records (Bad f n) e = absurd (let z : ◌≡◌ {A = ℕ} 0 1 = cc in omega arith)

from_records : (text lent : List ℕ) (out : List Record) → length lent ≡ 128 → outcome text ≡ Records out → Sets text (read_leaves text lent)
unfolding read_leaves outcome
from_records text lent out l o =
    let i : read_leaves text lent ≡ image_of out = rw (eq-eqb (length lent) 128 l, o) in
    rw i (sets text out (found (parts lf text) 1 [] out text refl o (λ a. omega arith)))

pub exactly : (text lent : List ℕ) → length lent ≡ 128 → read_answer text (length lent) ≡ Ok tt → Sets text (read_leaves text lent)
unfolding read_answer
exactly text lent l e =
    let o = read_records (outcome text) (rw (eq-eqb (length lent) 128 l) at e) in
    from_records text lent o.0 l o.1
