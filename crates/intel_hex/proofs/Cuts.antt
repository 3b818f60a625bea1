-- A text cut at its first LF, and the record that the line before it says.
use Rattle.std.specs.Prelude.{Ok}
use mathlib.Core.Path.{◌≡◌, refl, sym, ap, ap₂, ◌∙◌}
use mathlib.Core.Logic.{◌⊎◌, inl, inr, ⊎_elim}
use mathlib.Core.Bool.{true, false}
use mathlib.Core.List.{List, [], ◌∷◌, ◌++◌, append_assoc}
use Prim.Native.Nat.{ℕ, suc, ◌+◌, ◌-◌, ◌<◌}
use native.Mathlib.Omega.{arith}
use borrow.Author.Tests.{eqb-true}
use lib.Dec.{eqb}
use lib.ListN.{length, take, drop, get_or}
use lib.Seq.{take-suc, take_all, take-length, length-take-le}
use Rattle.params.specs.declared.hex_faults.HexFault.TheVariants.{Form, Count}
use Rattle.text.specs.Fields.{longer, parts}
use Rattle.text.proofs.reading.Tests.{decided, and_true}
use Rattle.text.proofs.reading.Parts.{some}
use Rattle.intel_hex.specs.Record.{lf, cr, colon, fields, hex_pairs, without_cr, is_digit_line, bytes_of, is_counted, record_of, record_in}
use Rattle.intel_hex.specs.Faults.{unless, form_fault, nothing}
use Rattle.intel_hex.specs.Texts.{Line}
use Rattle.intel_hex.proofs.Faultless.{unless_fine}

-- ---- the first line, and what is behind its LF

pub record Cut (text line : List ℕ) (ps : List (List ℕ)) : Type 0 where
  pub rest : List ℕ
  pub is : text ≡ line ++ (lf ∷ rest)
  pub others : parts lf rest ≡ ps

heads : (p q : List ℕ) (ps qs : List (List ℕ)) → p ∷ ps ≡ q ∷ qs → p ≡ q
heads p q ps qs e = cc

tails : (p q : List ℕ) (ps qs : List (List ℕ)) → p ∷ ps ≡ q ∷ qs → ps ≡ qs
tails p q ps qs e = cc

pub cut : (text line m : List ℕ) (ls : List (List ℕ)) → parts lf text ≡ line ∷ m ∷ ls → Cut text line (m ∷ ls)
cut [] line m ls e = absurd (let t = tails [] line [] (m ∷ ls) e in let z : ◌≡◌ {A = ℕ} 0 1 = cc in omega arith)
cut (b ∷ s) line m ls e =
    ⊎_elim
    (λ (t : eqb b lf ≡ true).
    let f : [] ∷ parts lf s ≡ line ∷ m ∷ ls = rw t at e in
    record {
      rest = s;
      is = rw (← heads [] line (parts lf s) (m ∷ ls) f, eqb-true b lf t);
      others = tails [] line (parts lf s) (m ∷ ls) f;
    })
    (λ (t : eqb b lf ≡ false).
    let p = some lf s in
    let f : longer b (parts lf s) ≡ line ∷ m ∷ ls = rw t at e in
    let g : (b ∷ p.first) ∷ p.rest ≡ line ∷ m ∷ ls = rw p.are at f in
    let c = cut s p.first m ls (p.are ∙ ap (λ (ps : List (List ℕ)). p.first ∷ ps) (tails (b ∷ p.first) line p.rest (m ∷ ls) g)) in
    record {
      rest = c.rest;
      is = ap (λ (l : List ℕ). b ∷ l) c.is ∙ ap (λ (l : List ℕ). l ++ (lf ∷ c.rest)) (heads (b ∷ p.first) line p.rest (m ∷ ls) g);
      others = c.others;
    })
    (decided (eqb b lf))

-- no text behind it
pub no_text : (text m : List ℕ) (ls : List (List ℕ)) → parts lf text ≡ m ∷ ls → nothing (m ∷ ls) ≡ true → text ≡ []
no_text [] m ls e t = refl
no_text (b ∷ s) [] [] e t =
    let p = some lf s in
    ⊎_elim
    (λ (u : eqb b lf ≡ true).
    let f : [] ∷ parts lf s ≡ [] ∷ [] = rw u at e in
    let g : parts lf s ≡ [] = tails [] [] (parts lf s) [] f in
    absurd (let h = p.are in let z : ◌≡◌ {A = ℕ} 0 1 = cc in omega arith))
    (λ (u : eqb b lf ≡ false).
    let f : longer b (parts lf s) ≡ [] ∷ [] = rw u at e in
    let g : (b ∷ p.first) ∷ p.rest ≡ [] ∷ [] = rw p.are at f in
    absurd (let h = heads (b ∷ p.first) [] p.rest [] g in let z : ◌≡◌ {A = ℕ} 0 1 = cc in omega arith))
    (decided (eqb b lf))
no_text (b ∷ s) [] (m ∷ ls) e t = let z : false ≡ true = t in cc
no_text (b ∷ s) (x ∷ m) ls e t = let z : false ≡ true = t in cc

-- ---- bytes that are counted say a record, whose fields they are

same_fields : (bs : List ℕ) → is_counted bs ≡ true → fields (record_of bs) ≡ bs
same_fields [] e = absurd (let c = eqb-true 0 5 e in omega arith)
same_fields (n ∷ []) e = absurd (let c = eqb-true 1 (n + 5) e in omega arith)
same_fields (n ∷ h ∷ []) e = absurd (let c = eqb-true 2 (n + 5) e in omega arith)
same_fields (n ∷ h ∷ l ∷ []) e = absurd (let c = eqb-true 3 (n + 5) e in omega arith)
same_fields (n ∷ h ∷ l ∷ k ∷ bs) e =
    let c : suc (suc (suc (suc (length bs)))) ≡ n + 5 = eqb-true (suc (suc (suc (suc (length bs))))) (n + 5) e in
    let i : n + 4 ≡ suc (suc (suc (suc n))) = omega arith in
    let s : get_or (n ∷ h ∷ l ∷ k ∷ bs) (n + 4) 0 ≡ get_or bs n 0 = rw i in
    let t : take n bs ++ (get_or (n ∷ h ∷ l ∷ k ∷ bs) (n + 4) 0 ∷ []) ≡ bs =
    rw s (sym (take-suc bs n 0 (omega arith)) ∙ take_all (suc n) bs (omega arith)) in
    ap₂ (λ (m : ℕ) (cs : List ℕ). m ∷ h ∷ l ∷ k ∷ cs) (length-take-le n bs (omega arith)) t

-- ---- what ends a line

record Ended (line kept : List ℕ) : Type 0 where
  ending : List ℕ
  ends : (ending ≡ lf ∷ []) ⊎ (ending ≡ cr ∷ lf ∷ [])
  is : line ++ (lf ∷ []) ≡ kept ++ ending

last_is : (line : List ℕ) (b : ℕ) → get_or line (length line - 1) 0 ≡ b → 0 < b → line ≡ take (length line - 1) line ++ (b ∷ [])
last_is [] b e h = absurd (omega arith)
last_is (x ∷ xs) b e h =
    let i : suc (length xs) - 1 ≡ length xs = omega arith in
    let g : get_or (x ∷ xs) (length xs) 0 ≡ b = rw i at e in
    rw (i, ← g) (sym (take-length (x ∷ xs)) ∙ take-suc (x ∷ xs) (length xs) 0 (omega arith))

ended : (line : List ℕ) → Ended line (without_cr line)
ended line =
    let last = get_or line (length line - 1) 0 in
    ⊎_elim
    (λ (t : eqb last cr ≡ true). rw t
    (let front = take (length line - 1) line in
    record {
      ending = cr ∷ lf ∷ [];
      ends = inr refl;
      is = ap (λ (l : List ℕ). l ++ (lf ∷ [])) (last_is line cr (eqb-true last cr t) (omega arith)) ∙ append_assoc front (cr ∷ []) (lf ∷ []);
    }))
    (λ (t : eqb last cr ≡ false). rw t (record { ending = lf ∷ []; ends = inl refl; is = refl }))
    (decided (eqb last cr))

starts : (s : List ℕ) (b : ℕ) → get_or s 0 0 ≡ b → 0 < b → s ≡ b ∷ drop 1 s
starts [] b e h = absurd (omega arith)
starts (x ∷ s) b e h = ap (λ (y : ℕ). y ∷ s) e

-- a line whose form is right is the line of the record that it says
pub line_of : (line : List ℕ) → form_fault line ≡ Ok tt → Line (record_in line) (line ++ (lf ∷ []))
unfolding is_digit_line
line_of line f =
    let kept = without_cr line in
    let p = unless_fine (is_digit_line line) Form (unless (is_counted (bytes_of line)) Count (Ok tt)) f in
    let c = unless_fine (is_counted (bytes_of line)) Count (Ok tt) p.1 in
    let d = and_true (eqb (get_or kept 0 0) colon) (hex_pairs (drop 1 kept)) p.0 in
    let e = ended line in
    record {
      digits = drop 1 kept;
      ending = e.ending;
      pairs = d.1;
      says = sym (same_fields (bytes_of line) c.0);
      ends = e.ends;
      is = e.is ∙ ap (λ (s : List ℕ). s ++ e.ending) (starts kept colon (eqb-true (get_or kept 0 0) colon d.0) (omega arith));
    }
