-- A line read from its beginning: it is refused by the fault of its definition, and says the packet that it says there.
-- Assumes nothing.
use Rattle.std.specs.Prelude.{Ok, Err}
use mathlib.Core.Path.{◌≡◌, refl, sym, ◌∙◌, ap₂}
use mathlib.Core.Logic.{⊎_elim}
use mathlib.Core.Bool.{true, false}
use mathlib.Core.List.{List, [], ◌∷◌, ◌++◌, append_assoc}
use Prim.Native.Nat.{ℕ, zero, suc, ◌+◌, ◌-◌, ◌<◌}
use native.Mathlib.Omega.{arith}
use borrow.Author.Tests.{ne_eqb, lt-ltb}
use lib.ListN.{length, take, set, length-set}
use lib.Seq.{take_all, take-suc-set}
use Rattle.params.specs.declared.line_faults.LineFault.TheVariants.{Form}
use Rattle.time_on_air.specs.Packet.{Judged}
use Rattle.time_on_air.specs.Packet.{packet_fault}
use Rattle.text.specs.Fields.{parts}
use Rattle.time_on_air.specs.Lines.{tab, is_number, numbers, form_fault, packet_of, packet_in, otherwise, line_fault}
use Rattle.time_on_air.specs.Onward.{Said, says, wrong, held_from, fields_from, line_from, said_fault, said_numbers}
use Rattle.text.proofs.reading.Parts.{some}
use Rattle.text.proofs.reading.Tests.{decided}
use Rattle.time_on_air.proofs.Caps.{caps, same_fault, same_packet}
use Rattle.time_on_air.proofs.Numbers.{number}

-- the numbers as they are held, which are the fields' own up to 2^32
abbrev held : List (List ℕ) → List ℕ
held [] = []
held (f ∷ fs) = (number f).number ∷ held fs

held_near : (fs : List (List ℕ)) → caps (held fs) ≡ caps (numbers fs)
held_near [] = refl
held_near (f ∷ fs) = ap₂ (λ (n : ℕ) (ns : List ℕ). n ∷ ns) (number f).near (held_near fs)

-- what is said of fields, and their fault by the definition
data Agree : Said → Judged → List ℕ → Type 0 where
  right : {ns : List ℕ} → length ns ≡ 8 → Agree (says ns) (Ok tt) ns
  wrongly : {k : ℕ} {ns : List ℕ} → Agree (wrong k) (Err (Form k)) ns

right_as : (ns ms : List ℕ) → length ns ≡ 8 → ns ≡ ms → Agree (says ns) (Ok tt) ms
right_as ns ms l e = rw (sym e) (right l)

last_set : (ns : List ℕ) (v : ℕ) → length ns ≡ 8 → set ns 7 v ≡ take 7 ns ++ (v ∷ [])
last_set ns v l =
    sym (take_all 8 (set ns 7 v) (let e = length-set ns 7 v in omega arith)) ∙ take-suc-set ns 7 v (omega arith)

next_set : (ns : List ℕ) (k v : ℕ) (vs : List ℕ) → k < length ns → take (suc k) (set ns k v) ++ vs ≡ take k ns ++ (v ∷ vs)
next_set ns k v vs l = rw (take-suc-set ns k v l, append_assoc (take k ns) (v ∷ []) vs)

held_right : (f : List ℕ) → is_number f ≡ true → held_from 0 f ≡ suc (number f).number
held_right f e = rw e at (number f).is

held_none : (f : List ℕ) → is_number f ≡ false → held_from 0 f ≡ 0
held_none f e = rw e at (number f).is

pred : (m : ℕ) → suc m - 1 ≡ m
pred m = omega arith

-- fields of which the first is no number
agree_none : (n k : ℕ) (ns : List ℕ) (f : List ℕ) (fs : List (List ℕ)) (ms : List ℕ) → is_number f ≡ false
    → Agree (fields_from ns k 0 (f ∷ fs)) (form_fault k (suc n) (f ∷ fs)) ms
agree_none n k ns f [] ms e = rw (held_none f e, e) wrongly
agree_none n k ns f (g ∷ gs) ms e = rw (held_none f e, e) wrongly

-- fields of which the first is a number, and those behind it agree
agree_more : (n k : ℕ) (ns : List ℕ) (f : List ℕ) (fs : List (List ℕ)) → k + suc n ≡ 8 → length ns ≡ 8 → is_number f ≡ true
    → Agree (fields_from ns k 0 (f ∷ fs)) (form_fault k (suc n) (f ∷ fs)) (take k ns ++ held (f ∷ fs))
agree_more zero k ns f [] h l e =
    let m = (number f).number in
    let k7 : k ≡ 7 = omega arith in
    rw (held_right f e, e, k7, pred m) (right_as (set ns 7 m) (take 7 ns ++ (m ∷ [])) (length-set ns 7 m ∙ l) (last_set ns m l))
agree_more zero k ns f (g ∷ gs) h l e = let k7 : k ≡ 7 = omega arith in rw (held_right f e, e, k7) wrongly
agree_more (suc n) k ns f [] h l e =
    rw (held_right f e, e, ne_eqb k 7 (λ i. omega arith), lt-ltb k 7 (omega arith)) wrongly
agree_more (suc n) k ns f (g ∷ gs) h l e =
    let m = (number f).number in
    let k8 : k < length ns = omega arith in
    ⊎_elim
    (λ (d : is_number g ≡ true). rw (held_right f e, e, lt-ltb k 7 (omega arith), pred m, ← next_set ns k m (held (g ∷ gs)) k8) (agree_more n (suc k) (set ns k m) g gs (omega arith) (length-set ns k m ∙ l) d))
    (λ (d : is_number g ≡ false). rw (held_right f e, e, lt-ltb k 7 (omega arith), pred m) (agree_none n (suc k) (set ns k m) g gs (take k ns ++ held (f ∷ g ∷ gs)) d))
    (decided (is_number g))

agree : (ns : List ℕ) (f : List ℕ) (fs : List (List ℕ)) → length ns ≡ 8
    → Agree (fields_from ns 0 0 (f ∷ fs)) (form_fault 0 8 (f ∷ fs)) (held (f ∷ fs))
agree ns f fs l =
    ⊎_elim (λ (e : is_number f ≡ true). agree_more 7 0 ns f fs refl l e) (λ (e : is_number f ≡ false). agree_none 7 0 ns f fs (held (f ∷ fs)) e) (decided (is_number f))

-- ---- a whole line

-- what a line says is refused as its definition refuses it; what is not refused is its packet, in eight numbers
pub record Judges (said : Said) (line : List ℕ) : Type 0 where
  pub faults : said_fault said ≡ line_fault line
  pub packets : line_fault line ≡ Ok tt → packet_of (said_numbers said) ≡ packet_in line
  pub eight : line_fault line ≡ Ok tt → length (said_numbers said) ≡ 8

module _ (ms : List ℕ) where
  from_form : {said : Said} {form : Judged} {ns : List ℕ} → Agree said form ns → caps ns ≡ caps ms
      → (said_fault said ≡ otherwise form (packet_fault (packet_of ms)))
      × (otherwise form (packet_fault (packet_of ms)) ≡ Ok tt → packet_of (said_numbers said) ≡ packet_of ms)
      × (otherwise form (packet_fault (packet_of ms)) ≡ Ok tt → length (said_numbers said) ≡ 8)
  from_form (right {ns} l) e = (same_fault ns ms e, same_packet ns ms e, λ f. l)
  from_form wrongly e = (refl, λ f. cc, λ f. cc)

pub judges : (ns line : List ℕ) → length ns ≡ 8 → Judges (line_from false ns 0 0 line) line
unfolding line_fault
judges ns line l =
    let s = some tab line in
    let a : Agree (fields_from ns 0 0 (parts tab line)) (form_fault 0 8 (parts tab line)) (held (parts tab line)) =
    rw s.are (agree ns s.first s.rest l) in
    let j = from_form (numbers (parts tab line)) a (held_near (parts tab line)) in
    record { faults = j.0; packets = j.1; eight = j.2 }
