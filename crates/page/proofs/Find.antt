-- A place is found by its address, since no other place of the page has it.
-- Assumes nothing.
use mathlib.Core.Path.{◌≡◌, refl, sym, ap, ◌∙◌}
use mathlib.Core.Bool.{Bool}
use mathlib.Core.List.{List, [], ◌∷◌}
use Prim.Native.Nat.{ℕ, zero, suc, ◌<◌}
use native.Mathlib.Omega.{arith}
use borrow.Author.Tests.{eq-eqb, ne_eqb}
use lib.Dec.{T}
use lib.ListN.{length, get_or}
use Rattle.sheets.proofs.Sweep.{both}
use Rattle.page.specs.Page.{Place, nowhere, find, pick, free, apart}
use Rattle.page.proofs.Demand3.{free_tail}

module _ {S : Type 0} where
  other : (a : ℕ) (ps : List (Place S)) → T (free a ps) → (n : ℕ) → n < length ps → (get_or ps n nowhere).addr ≡ a → ⊥
  other a [] f n h e = absurd (omega arith)
  other a (p ∷ ps) f zero h e = (free_tail a p ps f).0 (sym e)
  other a (p ∷ ps) f (suc n) h e = other a ps (free_tail a p ps f).1 n (omega arith) e

  pub find_own : (ps : List (Place S)) → T (apart ps) → (n : ℕ) → n < length ps → find (get_or ps n nowhere).addr ps ≡ get_or ps n nowhere
  find_own [] d n h = absurd (omega arith)
  find_own (p ∷ ps) d zero h = ap (λ (b : Bool). pick b p (find p.addr ps)) (eq-eqb p.addr p.addr refl)
  find_own (p ∷ ps) d (suc n) h =
      let f = both (free p.addr ps) (apart ps) d in
      let q = get_or ps n nowhere in
      ap (λ (b : Bool). pick b p (find q.addr ps)) (ne_eqb q.addr p.addr (other p.addr ps f.0 n (omega arith)))
      ∙ find_own ps f.1 n (omega arith)

  -- an address that is none of the places'
  pub find_free : (a : ℕ) (ps : List (Place S)) → T (free a ps) → find a ps ≡ nowhere
  find_free a [] f = refl
  find_free a (p ∷ ps) f =
      let h = free_tail a p ps f in
      ap (λ (b : Bool). pick b p (find a ps)) (ne_eqb a p.addr h.0) ∙ find_free a ps h.1
