-- Read from the start, a text comes to its report: the first bad line, or the sums of all packets, rounded up.
-- Assumes nothing.
use Rattle.std.specs.Prelude.{Ok, Err}
use mathlib.Core.Path.{◌≡◌, refl, sym, ◌∙◌, ap}
use mathlib.Core.Logic.{◌⊎◌, inl, inr, ⊎_elim}
use mathlib.Core.Bool.{Bool, true, false, cond}
use mathlib.Core.List.{List, [], ◌∷◌}
use Prim.Native.Nat.{ℕ, zero, suc, ◌+◌, ◌*◌, ◌≤◌, ◌<◌, min}
use native.Mathlib.Omega.{arith}
use borrow.Author.Tests.{leb-true, leb-false, lt-ltb, eqb-true, eqb-false}
use lib.Dec.{eqb, leb}
use lib.ListN.{length, get_or, length-set, replicate}
use lib.Seq.{get_or-set_same, get_or-set_other}
use Rattle.params.specs.declared.line_faults.LineFault.{LineFault}
use Rattle.time_on_air.specs.declared.packet.Packet.{Packet}
use Rattle.time_on_air.specs.Packet.{Judged}
use Rattle.time_on_air.specs.Packet.{packet_fault, Counts}
use Rattle.time_on_air.specs.Symbols.{quarter_chips}
use Rattle.text.specs.Fields.{parts}
use Rattle.time_on_air.specs.Lines.{tab, lf, form_fault, packet_in, otherwise, line_fault}
use Rattle.time_on_air.specs.Report.{most_lines, first_bad, share, sum, microseconds, each, verdict, totals}
use Rattle.time_on_air.specs.Onward.{outcome_of, sent, line_from, said_numbers, most_sum, grown, added, rounded, onward}
use Rattle.text.proofs.reading.Parts.{some}
use Rattle.text.proofs.reading.Tests.{decided}
use Rattle.time_on_air.proofs.Lines.{judges}
use Rattle.time_on_air.proofs.packet.Accepted.{accepted}
use Rattle.time_on_air.proofs.symbols.Bounds.{chips_bound}

-- ---- sums that are no more than so many of the longest packets

pub record Small (n : ℕ) (sums : List ℕ) : Type 0 where
  pub ten : length sums ≡ 10
  pub each_small : (bw : ℕ) → get_or sums bw 0 ≤ n * 1400000000

-- one packet more
module _ (n : ℕ) (sums : List ℕ) (p : Packet) (room : n < most_lines) (s : Small n sums) (c : Counts p) where
  adds : (bw : ℕ) → get_or (added sums p) bw 0 ≡ get_or sums bw 0 + share bw p
  unfolding added
  adds bw =
      let b = p.bandwidth in
      let v = get_or sums b 0 in
      let h : v ≤ n * 1400000000 = s.each_small b in
      let l : b < length sums = let t = s.ten in let u : b ≤ 9 = c.bandwidth in omega arith in
      let g : grown v (quarter_chips p) ≡ v + quarter_chips p = rw (lt-ltb v most_sum (omega arith)) in
      let shared : (t : Bool) → eqb b bw ≡ t → share bw p ≡ cond t (quarter_chips p) 0 = λ t e. ap (λ (x : Bool). cond x (quarter_chips p) 0) e in
      ⊎_elim
      (λ (e : eqb b bw ≡ true). rw (shared true e, ← eqb-true b bw e, get_or-set_same sums b (grown v (quarter_chips p)) 0 l) g)
      (λ (e : eqb b bw ≡ false). rw (shared false e, get_or-set_other sums b bw (grown v (quarter_chips p)) 0 (λ i. eqb-false b bw e (sym i))) (omega arith))
      (decided (eqb b bw))

  share_small : (bw : ℕ) → share bw p ≤ 1400000000
  share_small bw =
      let h : quarter_chips p ≤ 1353240576 = chips_bound p c in
      ⊎_elim (λ (e : eqb p.bandwidth bw ≡ true). rw e (omega arith)) (λ (e : eqb p.bandwidth bw ≡ false). rw e (omega arith)) (decided (eqb p.bandwidth bw))

  still_small : Small (suc n) (added sums p)
  unfolding added
  still_small =
      record {
        ten = length-set sums p.bandwidth (grown (get_or sums p.bandwidth 0) (quarter_chips p)) ∙ s.ten;
        each_small = λ bw. let h = s.each_small bw in let k = share_small bw in rw (adds bw) (omega arith);
      }

-- ---- totals

each_same : (f g : ℕ → ℕ) → ((bw : ℕ) → f bw ≡ g bw) → each f ≡ each g
each_same f g h = rw (h 0, h 1, h 2, h 3, h 4, h 5, h 6, h 7, h 8, h 9)

-- what the sums so far and the packets of these parts come to
abbrev altogether : List ℕ → List (List ℕ) → List ℕ
altogether sums ps = each (λ bw. microseconds bw (get_or sums bw 0 + sum bw ps))

nothing_more : (n : ℕ) (sums : List ℕ) (rest : List ℕ) → n ≤ most_lines → Small n sums → rounded sums ≡ altogether sums (rest ∷ [])
unfolding rounded
nothing_more n sums rest l s =
    each_same _ _
    (λ bw. let h : get_or sums bw 0 ≤ n * 1400000000 = s.each_small bw in
    let e : min (get_or sums bw 0) most_sum ≡ get_or sums bw 0 + 0 = omega arith in
    ap (microseconds bw) e)

one_more : (n : ℕ) (sums : List ℕ) (line : List ℕ) (m : List ℕ) (ls : List (List ℕ)) → n < most_lines → Small n sums → Counts (packet_in line)
    → altogether (added sums (packet_in line)) (m ∷ ls) ≡ altogether sums (line ∷ m ∷ ls)
one_more n sums line m ls r s c =
    each_same _ _
    (λ bw. let e : get_or (added sums (packet_in line)) bw 0 + sum bw (m ∷ ls) ≡ get_or sums bw 0 + (share bw (packet_in line) + sum bw (m ∷ ls)) = rw (adds n sums (packet_in line) r s c bw) (omega arith) in
    ap (microseconds bw) e)

-- ---- lines

judged : (j : Judged) → (j ≡ Ok tt) ⊎ ((f : LineFault) × (j ≡ Err f))
judged (Ok tt) = inl refl
judged (Err f) = inr (f, refl)

then_fine : (j k : Judged) → otherwise j k ≡ Ok tt → k ≡ Ok tt
then_fine (Ok tt) k h = h
then_fine (Err f) k h = cc

packet_fine : (line : List ℕ) → line_fault line ≡ Ok tt → packet_fault (packet_in line) ≡ Ok tt
unfolding line_fault
packet_fine line h = then_fine (form_fault 0 8 (parts tab line)) (packet_fault (packet_in line)) h

Whole : ℕ → List ℕ → List ℕ → List (List ℕ) → Type 0
Whole n sums ns ps = onward n sums false ns 0 0 ps ≡ outcome_of (first_bad (suc n) ps) (altogether sums ps)

-- the end: nothing behind the last LF, or a line that lacks its own
at_rest : (n : ℕ) (sums ns rest : List ℕ) → n ≤ most_lines → Small n sums → Whole n sums ns (rest ∷ [])
unfolding Whole
at_rest n sums ns [] l s = ap sent (nothing_more n sums [] l s)
at_rest n sums ns (b ∷ rest) l s =
    ⊎_elim
    (λ (e : leb (suc n) most_lines ≡ true). rw e)
    (λ (e : leb (suc n) most_lines ≡ false). let h = leb-false (suc n) most_lines e in let i : n ≡ most_lines = omega arith in rw i)
    (decided (leb (suc n) most_lines))

whole : (p : List ℕ) (ps : List (List ℕ)) (n : ℕ) (sums ns : List ℕ) → n ≤ most_lines → length ns ≡ 8 → Small n sums → Whole n sums ns (p ∷ ps)
unfolding Whole
whole p [] n sums ns l k s = at_rest n sums ns p l s
whole p (m ∷ ls) n sums ns l k s =
    let j = judges ns p k in
    ⊎_elim
    (λ (e : leb (suc n) most_lines ≡ true). rw (e, j.faults)
    (⊎_elim
    (λ (f : line_fault p ≡ Ok tt). let r : n < most_lines = leb-true (suc n) most_lines e in
    let c = accepted (packet_in p) (packet_fine p f) in
    rw (f, j.packets f)
    (whole m ls (suc n) (added sums (packet_in p)) (said_numbers (line_from false ns 0 0 p)) r (j.eight f) (still_small n sums (packet_in p) r s c)
    ∙ ap (outcome_of (first_bad (suc (suc n)) (m ∷ ls))) (one_more n sums p m ls r s c)))
    (λ (f : (f : LineFault) × (line_fault p ≡ Err f)). rw f.1)
    (judged (line_fault p))))
    (λ (e : leb (suc n) most_lines ≡ false). let h = leb-false (suc n) most_lines e in
    let i : n ≡ most_lines = omega arith in
    rw i)
    (decided (leb (suc n) most_lines))

-- ---- from the start

all_zero : (n k : ℕ) → ◌≡◌ {A = ℕ} (get_or (replicate n 0) k 0) 0
all_zero zero zero = refl
all_zero zero (suc k) = refl
all_zero (suc n) zero = refl
all_zero (suc n) (suc k) = all_zero n k

nothing_yet : Small 0 (replicate 10 0)
nothing_yet = record { ten = refl; each_small = λ bw. let e = all_zero 10 bw in omega arith }

from_nothing : (ps : List (List ℕ)) → altogether (replicate 10 0) ps ≡ each (λ bw. microseconds bw (sum bw ps))
from_nothing ps =
    each_same _ _
    (λ bw. let e : get_or (replicate 10 0) bw 0 + sum bw ps ≡ sum bw ps = let z = all_zero 10 bw in omega arith in
    ap (microseconds bw) e)

pub from_start : (text : List ℕ) → onward 0 (replicate 10 0) false (replicate 8 0) 0 0 (parts lf text) ≡ outcome_of (verdict text) (totals text)
unfolding Whole verdict totals
from_start text =
    let s = some lf text in
    rw s.are
    (whole s.first s.rest 0 (replicate 10 0) (replicate 8 0) (omega arith) refl nothing_yet
    ∙ ap (outcome_of (first_bad 1 (s.first ∷ s.rest))) (from_nothing (s.first ∷ s.rest)))
