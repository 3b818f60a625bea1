-- A walk over lines: what is left of the text, behind the records that are held, gives the outcome of the whole.
use Rattle.std.specs.Prelude.{Ok, Err, Option}
use mathlib.Core.Path.{◌≡◌, refl, sym, ap, ◌∙◌}
use mathlib.Core.Logic.{⊎_elim}
use mathlib.Core.Bool.{Bool, true, false, cond}
use mathlib.Core.List.{List, [], ◌∷◌}
use Prim.Native.Nat.{ℕ, suc, ◌+◌, ◌-◌, ◌≤◌, ◌<◌}
use native.Mathlib.Omega.{arith}
use borrow.Author.Tests.{eq-eqb, ne_eqb, eqb-true, eqb-false}
use lib.Dec.{eqb, eqb-suc-zero}
use lib.ListN.{length, take, drop, length-take, length-drop}
use Rattle.text.specs.Bytes.{index_of}
use Rattle.text.specs.Fields.{longer, parts}
use Rattle.text.proofs.reading.Parts.{some, one_part, first_part}
use Rattle.text.proofs.reading.Tests.{decided}
use Rattle.params.specs.declared.hex_faults.HexFault.{HexFault}
use Rattle.params.specs.declared.hex_faults.HexFault.TheVariants.{Open, NoEnd}
use Rattle.intel_hex.specs.Record.{Record, lf, address, record_in}
use Rattle.intel_hex.specs.Places.{image_of}
use Rattle.intel_hex.specs.Faults.{Judged, Records, Bad, or_bad, line_fault, is_end, incomplete, rest_fault, nothing, outcome_from, outcome}
use Rattle.intel_hex.specs.Calls.{answered}
use Rattle.intel_hex.specs.Reading.{Holds, free_in, held_line_fault, giving, Took, ended_as, shown, Shown}
use Rattle.intel_hex.proofs.Form.{given, some_text}
use Rattle.intel_hex.proofs.Held.{taken_as_set, free_as_incomplete, image_held, holds_more}

pub record Reached (text rest : List ℕ) (n : ℕ) (places : List (Option ℕ)) : Type 0 where
  pub earlier : List Record
  pub holds : Holds earlier places
  pub left : outcome_from n earlier (parts lf rest) ≡ outcome text

pub begun : (text : List ℕ) (places : List (Option ℕ)) → Holds [] places → Reached text text 1 places
unfolding outcome
begun text places h = record { earlier = []; holds = h; left = refl }

-- ---- parts

nothing_longer : (b : ℕ) (ps : List (List ℕ)) → nothing (longer b ps) ≡ false
nothing_longer b [] = refl
nothing_longer b (p ∷ ps) = refl

nothing_left : (s : List ℕ) → nothing (parts lf s) ≡ eqb (length s) 0
nothing_left [] = refl
nothing_left (b ∷ s) =
    let p = some lf s in
    ⊎_elim
    (λ (t : eqb b lf ≡ true). rw (t, p.are, eqb-suc-zero (length s)))
    (λ (t : eqb b lf ≡ false). rw (t, nothing_longer b (parts lf s), eqb-suc-zero (length s)))
    (decided (eqb b lf))

-- ---- what a line was taken as

is_bad : (j : Judged) (e : Bool) (f : HexFault) → Err f ≡ giving j e → j ≡ Err f
is_bad (Ok tt) e f h = cc
is_bad (Err g) e f h = cc

-- at the end record: what is missing, or the image
closes : (j : Judged) (n : ℕ) (rs : List Record) (places : List (Option ℕ)) → shown places ≡ image_of rs → (ended_as j n ≡ answered (or_bad n j (Records rs))) × Shown (or_bad n j (Records rs)) places
closes (Ok tt) n rs places e = (refl, e)
closes (Err f) n rs places e = (refl, tt)

-- ---- a line, up to its LF at `end`

module _ (text rest : List ℕ) (n : ℕ) (places : List (Option ℕ)) (k : Reached text rest n places) where
  -- there is no text left
  pub unfinished : length rest ≡ 0 → outcome text ≡ Bad NoEnd n
  unfinished e = sym k.left ∙ none rest e
    where
      none : (s : List ℕ) → length s ≡ 0 → outcome_from n k.earlier (parts lf s) ≡ Bad NoEnd n
      none [] h = refl
      none (b ∷ s) h = absurd (omega arith)

  -- there is no LF
  pub not_ended : 0 < length rest → index_of lf rest ≡ length rest → outcome text ≡ Bad Open n
  not_ended h e = sym k.left ∙ rw (one_part lf rest e) (ap (λ (f : HexFault). Bad f n) (some_rest rest h))
    where
      some_rest : (s : List ℕ) → 0 < length s → rest_fault s ≡ Open
      some_rest [] l = absurd (omega arith)
      some_rest (b ∷ s) l = refl

  -- there is one: the line is what stands before it, and the text behind it is left
  module _ (end : ℕ) (found : end ≡ index_of lf rest) (ended : end < length rest) where
    abbrev pub line : List ℕ
    line = take end rest

    abbrev pub last : Bool
    last = eqb (end + 1) (length rest)

    split : parts lf rest ≡ line ∷ parts lf (drop (end + 1) rest)
    split =
        let b : suc end ≡ end + 1 = omega arith in
        let e : index_of lf rest ≡ end = sym found in
        rw (e, b) at (first_part lf rest (omega arith))

    is_last : nothing (parts lf (drop (end + 1) rest)) ≡ last
    is_last = nothing_left (drop (end + 1) rest) ∙ rw (length-drop (end + 1) rest) (left_or_none (length rest) (end + 1) (omega arith))
      where
        left_or_none : (n m : ℕ) → m ≤ n → eqb (n - m) 0 ≡ eqb m n
        left_or_none n m h =
            ⊎_elim
            (λ (t : eqb m n ≡ true). let e = eqb-true m n t in rw t (eq-eqb (n - m) 0 (omega arith)))
            (λ (t : eqb m n ≡ false). let d = eqb-false m n t in rw t (ne_eqb (n - m) 0 (λ z. d (omega arith))))
            (decided (eqb m n))

    -- the line's outcome, as the places tell its fault
    fault : held_line_fault places last line ≡ line_fault k.earlier last line
    fault = rw (taken_as_set k.earlier places k.holds (address (record_in line)) (record_in line).bytes)

    turn : outcome text
        ≡ or_bad n (held_line_fault places last line)
        (cond (is_end (record_in line)) (or_bad n (incomplete k.earlier) (Records k.earlier)) (outcome_from (suc n) (record_in line ∷ k.earlier) (parts lf (drop (end + 1) rest))))
    turn =
        let p = some lf (drop (end + 1) rest) in
        let l : nothing (p.first ∷ p.rest) ≡ last = rw p.are at is_last in
        sym k.left ∙ rw (split, fault, p.are, l)

    module _ (places' : List (Option ℕ)) where
      pub bad : (f : HexFault) → Took line last places (Err f) places' → outcome text ≡ Bad f n
      bad f t = turn ∙ rw (is_bad (held_line_fault places last line) (is_end (record_in line)) f t.is)

      pub goes_on : Took line last places (Ok false) places' → Reached text (drop (end + 1) rest) (n + 1) places' × (0 < end)
      goes_on t =
          let d = given (held_line_fault places last line) (is_end (record_in line)) false t.is in
          let long = some_text places last line d.0 in
          let short = length-take end rest in
          let m : n + 1 ≡ suc n = omega arith in
          (record { earlier = record_in line ∷ k.earlier; holds = holds_more k.earlier places k.holds (record_in line) places' t.leaves; left = rw m (sym (rw (d.0, d.1) at turn)) }, omega arith)

      pub ends : Took line last places (Ok true) places' → (ended_as (free_in places') n ≡ answered (outcome text)) × Shown (outcome text) places'
      ends t =
          let d = given (held_line_fault places last line) (is_end (record_in line)) true t.is in
          let o : outcome text ≡ or_bad n (incomplete k.earlier) (Records k.earlier) = rw (d.0, d.1) at turn in
          rw (o, t.leaves, free_as_incomplete k.earlier places k.holds) (closes (incomplete k.earlier) n k.earlier places (image_held k.earlier places k.holds))
