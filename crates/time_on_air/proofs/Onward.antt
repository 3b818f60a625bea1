-- What a reading comes to, byte after byte: one more digit, and a byte that ends a field or a line.
-- Assumes nothing.
use mathlib.Core.Path.{◌≡◌, refl, ◌∙◌}
use mathlib.Core.Logic.{⊎_elim}
use mathlib.Core.Bool.{Bool, true, false, cond}
use mathlib.Core.List.{List, [], ◌∷◌, ◌++◌}
use Prim.Native.Nat.{ℕ, zero, suc, ◌-◌, ◌≤◌, ◌<◌}
use native.Mathlib.Omega.{arith}
use borrow.Author.Tests.{eqb-true, ne_eqb}
use lib.Dec.{eqb, ltb}
use lib.ListN.{set}
use Rattle.params.specs.declared.line_faults.LineFault.TheVariants.{Form}
use Rattle.time_on_air.specs.declared.fields.Ended.{Ended}
use Rattle.time_on_air.specs.declared.fields.Ended.TheVariants.{Field, Line, Wrong, WrongLine}
use Rattle.time_on_air.specs.Packet.{packet_fault}
use Rattle.text.specs.Fields.{parts}
use Rattle.time_on_air.specs.Lines.{tab, lf, packet_of}
use Rattle.time_on_air.specs.Report.{most_lines}
use Rattle.time_on_air.specs.Onward.{Outcome, late, bad_line, more, goes_on, wrong, fields_from, line_from, said_fault, said_numbers, added, begun, or_bad, onward}
use Rattle.time_on_air.specs.Fields.{taken, after, wrong_at, tab_ends, lf_ends, ended_by}
use Rattle.text.proofs.reading.Parts.{some}
use Rattle.text.proofs.reading.Tests.{decided}
use Rattle.time_on_air.proofs.fields.Digit.{digit_from}

-- ---- a line that has begun

begun_by_a_byte : (w : Bool) (k h b : ℕ) (p : List ℕ) → begun w k h (b ∷ p) ≡ true
begun_by_a_byte true k h b p = refl
begun_by_a_byte false zero zero b p = refl
begun_by_a_byte false zero (suc h) b p = refl
begun_by_a_byte false (suc k) h b p = refl

begun_by_a_number : (w : Bool) (k n : ℕ) (p : List ℕ) → begun w k (suc n) p ≡ true
begun_by_a_number true k n p = refl
begun_by_a_number false zero n p = refl
begun_by_a_number false (suc k) n p = refl

chosen : (t : Bool) (w : Bool) (k m n : ℕ) (p : List ℕ) → begun w k (cond t (suc m) (suc n)) p ≡ true
chosen true w k m n p = begun_by_a_number w k m p
chosen false w k m n p = begun_by_a_number w k n p

begun_by_more : (w : Bool) (k h b : ℕ) (p : List ℕ) → begun w k (more h b) p ≡ true
begun_by_more w k zero b p = begun_by_a_number w k (b - 48) p
begun_by_more w k (suc n) b p = chosen (ltb n 4294967296) w k _ n p

-- ---- one more digit

module _ (h b : ℕ) (g : goes_on h b ≡ true) where
  no_separator : (sep : ℕ) → sep < 48 → eqb b sep ≡ false
  no_separator sep l = let d : 48 ≤ b = digit_from h b g in ne_eqb b sep (λ e. omega arith)

  fields_digit : (ns : List ℕ) (k : ℕ) (f : List ℕ) (fs : List (List ℕ)) → fields_from ns k h ((b ∷ f) ∷ fs) ≡ fields_from ns k (more h b) (f ∷ fs)
  fields_digit ns k f [] = rw g
  fields_digit ns k f (i ∷ fs) = rw g

  line_digit : (w : Bool) (ns : List ℕ) (k : ℕ) (p : List ℕ) → line_from w ns k h (b ∷ p) ≡ line_from w ns k (more h b) p
  line_digit true ns k p = refl
  line_digit false ns k p =
      let s = some tab p in
      rw (no_separator tab (omega arith), s.are) (fields_digit ns k s.first s.rest)

  parts_digit : (n : ℕ) (sums : List ℕ) (w : Bool) (ns : List ℕ) (k : ℕ) (p : List ℕ) (ps : List (List ℕ))
      → onward n sums w ns k h ((b ∷ p) ∷ ps) ≡ onward n sums w ns k (more h b) (p ∷ ps)
  parts_digit n sums w ns k p [] = rw (begun_by_a_byte w k h b p, begun_by_more w k h b p)
  parts_digit n sums w ns k p (q ∷ qs) = rw (line_digit w ns k p)

  pub digit : (n : ℕ) (sums : List ℕ) (w : Bool) (ns : List ℕ) (k : ℕ) (t : List ℕ)
      → onward n sums w ns k h (parts lf (b ∷ t)) ≡ onward n sums w ns k (more h b) (parts lf t)
  digit n sums w ns k t =
      let s = some lf t in
      rw (no_separator lf (omega arith), s.are) (parts_digit n sums w ns k s.first s.rest)

-- all the digits that stand at the front
pub run : (n : ℕ) (sums : List ℕ) (w : Bool) (ns : List ℕ) (k h : ℕ) (xs t : List ℕ)
    → onward n sums w ns k h (parts lf (xs ++ t)) ≡ onward n sums w ns k (taken h xs) (parts lf (after h xs ++ t))
run n sums w ns k h [] t = refl
run n sums w ns k h (b ∷ xs) t =
    ⊎_elim
    (λ g. rw (digit h b g n sums w ns k (xs ++ t), g) (run n sums w ns k (more h b) xs t))
    (λ g. rw g)
    (decided (goes_on h b))

-- ---- a byte that is no digit of a number

-- what is left once it has ended what it ends
abbrev pub ends : ℕ → List ℕ → Bool → List ℕ → ℕ → ℕ → Ended → List (List ℕ) → Outcome
ends n sums w ns k h Field ps = onward n sums w (set ns k (h - 1)) (suc k) 0 ps
ends n sums w ns k h Line ps =
    cond (ltb n most_lines)
    (or_bad (suc n) (packet_fault (packet_of (set ns 7 (h - 1))))
    (onward (suc n) (added sums (packet_of (set ns 7 (h - 1)))) w (set ns 7 (h - 1)) 0 0 ps))
    late
ends n sums w ns k h (Wrong j) ps = onward n sums true ns j h ps
ends n sums w ns k h (WrongLine j) ps = bad_line (Form j) n

abbrev pub EndsAs : ℕ → List ℕ → Bool → List ℕ → ℕ → ℕ → ℕ → List ℕ → Ended → Type 0
EndsAs n sums w ns k h b t e = onward n sums w ns k h (parts lf (b ∷ t)) ≡ ends n sums w ns k h e (parts lf t)

module _ (n : ℕ) (sums : List ℕ) where
  -- a line that is wrong, whatever ends it
  module _ (w : Bool) (ns : List ℕ) (k j h b : ℕ) (wrongs : (p : List ℕ) → line_from w ns k h (b ∷ p) ≡ wrong j) where
    goes_wrong : (p : List ℕ) (ps : List (List ℕ)) → onward n sums w ns k h ((b ∷ p) ∷ ps) ≡ onward n sums true ns j h (p ∷ ps)
    goes_wrong p [] = rw (begun_by_a_byte w k h b p)
    goes_wrong p (q ∷ qs) = rw (wrongs p)

    byte_wrong : eqb b lf ≡ false → (t : List ℕ) → onward n sums w ns k h (parts lf (b ∷ t)) ≡ onward n sums true ns j h (parts lf t)
    byte_wrong e t = let s = some lf t in rw (e, s.are) (goes_wrong s.first s.rest)

  -- a line that ends here
  line_ends_lem : (w : Bool) (ns : List ℕ) (k h : ℕ) (t : List ℕ)
      → onward n sums w ns k h (parts lf (lf ∷ t))
      ≡ cond (ltb n most_lines)
      (or_bad (suc n) (said_fault (line_from w ns k h [])) (onward (suc n) (added sums (packet_of (said_numbers (line_from w ns k h [])))) false (said_numbers (line_from w ns k h [])) 0 0 (parts lf t)))
      late
  line_ends_lem w ns k h t = let s = some lf t in rw s.are

  module _ (ns : List ℕ) (k : ℕ) where
    -- nothing was read of a field that a byte ends
    empty_line : (b : ℕ) → goes_on 0 b ≡ false → (p : List ℕ) → line_from false ns k 0 (b ∷ p) ≡ wrong k
    empty_line b g p =
        let s = some tab p in
        ⊎_elim (λ (e : eqb b tab ≡ true). rw (e, s.are)) (λ (e : eqb b tab ≡ false). rw (e, s.are) (stops s.first s.rest)) (decided (eqb b tab))
      where
        stops : (f : List ℕ) (fs : List (List ℕ)) → fields_from ns k 0 ((b ∷ f) ∷ fs) ≡ wrong k
        stops f [] = rw g
        stops f (i ∷ fs) = rw g

    -- a byte that is no separator ends a number
    other_line : (v b : ℕ) → goes_on (suc v) b ≡ false → eqb b tab ≡ false → (p : List ℕ) → line_from false ns k (suc v) (b ∷ p) ≡ wrong k
    other_line v b g e p = let s = some tab p in rw (e, s.are) (stops s.first s.rest)
      where
        stops : (f : List ℕ) (fs : List (List ℕ)) → fields_from ns k (suc v) ((b ∷ f) ∷ fs) ≡ wrong k
        stops f [] = rw g
        stops f (i ∷ fs) = rw g

    ninth_line : (v : ℕ) → ltb k 7 ≡ false → (p : List ℕ) → line_from false ns k (suc v) (tab ∷ p) ≡ wrong 8
    ninth_line v e p = let s = some tab p in rw (s.are, e)

    next_line : (v : ℕ) → ltb k 7 ≡ true → (p : List ℕ) → line_from false ns k (suc v) (tab ∷ p) ≡ line_from false (set ns k (suc v - 1)) (suc k) 0 p
    next_line v e p = let s = some tab p in rw (s.are, e)

    next_parts : (v : ℕ) → ltb k 7 ≡ true → (p : List ℕ) (ps : List (List ℕ))
        → onward n sums false ns k (suc v) ((tab ∷ p) ∷ ps) ≡ onward n sums false (set ns k (suc v - 1)) (suc k) 0 (p ∷ ps)
    next_parts v e p [] = rw (begun_by_a_byte false k (suc v) tab p)
    next_parts v e p (q ∷ qs) = rw (next_line v e p)

  -- a line that has a wrong field already, or one of which this byte ends nothing
  module _ (w : Bool) (ns : List ℕ) (k h b : ℕ) (t : List ℕ) (wrongs : (p : List ℕ) → line_from w ns k h (b ∷ p) ≡ wrong k) (alone : line_from w ns k h [] ≡ wrong k) where
    wrong_ends : EndsAs n sums w ns k h b t (wrong_at k b)
    wrong_ends =
        ⊎_elim
        (λ (e : eqb b lf ≡ true). rw (eqb-true b lf e) (line_ends_lem w ns k h t ∙ rw alone))
        (λ (e : eqb b lf ≡ false). byte_wrong w ns k k h b wrongs e t ∙ rw e)
        (decided (eqb b lf))

  module _ (ns : List ℕ) (k v : ℕ) (t : List ℕ) where
    tab_ends_lem : EndsAs n sums false ns k (suc v) tab t (tab_ends k)
    tab_ends_lem =
        ⊎_elim
        (λ (e : ltb k 7 ≡ true). let s = some lf t in rw (s.are, e) (next_parts ns k v e s.first s.rest))
        (λ (e : ltb k 7 ≡ false). byte_wrong false ns k 8 (suc v) tab (ninth_line ns k v e) refl t ∙ rw e)
        (decided (ltb k 7))

    lf_ends_lem : EndsAs n sums false ns k (suc v) lf t (lf_ends k)
    lf_ends_lem =
        line_ends_lem false ns k (suc v) t
        ∙ ⊎_elim (λ (e : eqb k 7 ≡ true). rw e) (λ (e : eqb k 7 ≡ false). rw e) (decided (eqb k 7))

    other_ends : (b : ℕ) → goes_on (suc v) b ≡ false → eqb b tab ≡ false → eqb b lf ≡ false → EndsAs n sums false ns k (suc v) b t (Wrong k)
    other_ends b g e f = byte_wrong false ns k k (suc v) b (other_line ns k v b g e) f t

    number_ends : (b : ℕ) → goes_on (suc v) b ≡ false → EndsAs n sums false ns k (suc v) b t (ended_by false k (suc v) b)
    number_ends b g =
        ⊎_elim
        (λ (e : eqb b tab ≡ true). rw (eqb-true b tab e) tab_ends_lem)
        (λ (e : eqb b tab ≡ false). ⊎_elim
        (λ (f : eqb b lf ≡ true). rw (eqb-true b lf f) lf_ends_lem)
        (λ (f : eqb b lf ≡ false). other_ends b g e f ∙ rw (e, f))
        (decided (eqb b lf)))
        (decided (eqb b tab))

  pub ending : (w : Bool) (ns : List ℕ) (k h b : ℕ) (t : List ℕ) → goes_on h b ≡ false → EndsAs n sums w ns k h b t (ended_by w k h b)
  ending true ns k h b t g = wrong_ends true ns k h b t (λ p. refl) refl
  ending false ns k zero b t g = wrong_ends false ns k 0 b t (empty_line ns k b g) refl
  ending false ns k (suc v) b t g = number_ends ns k v t b g
