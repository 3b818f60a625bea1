-- The registers so far: they are a page's first places, and the guess from them is tried on them.
-- Assumes nothing.
use mathlib.Core.Path.{◌≡◌, refl, sym, ap, subst, ◌∙◌}
use mathlib.Core.Bool.{Bool, true, false, ◌&&◌}
use mathlib.Core.List.{List, [], ◌∷◌}
use Prim.Native.Nat.{ℕ, zero, suc, ◌≤◌, ◌<◌}
use native.Mathlib.Omega.{arith}
use lib.Dec.{T, eqb}
use lib.ListN.{length, get_or, take}
use lib.Seq.{take-append-le, get_or-take, length-take-le}
use Rattle.sheets.specs.declared.Variant.{Variant}
use Rattle.sheets.specs.declared.Variant.TheVariants.{Sx1272, Sx1276}
use Rattle.sheets.specs.Registers.{reg_tcxo}
use Rattle.sheets.specs.Reader.{always, reader_order}
use Rattle.sheets.proofs.Sweep.{both, joined}
use Rattle.params.specs.declared.mod_params.Link.{Link}
use Rattle.params.specs.declared.board.Board.{Board}
use Rattle.page.specs.Page.{Place, nowhere, find, improved, written, holds, guess, first, fits}
use Rattle.page.proofs.Prefix.{guess_next}
use Rattle.page.proofs.Find.{find_own}
use Rattle.page.specs.Links.{accepted}
use Rattle.page.specs.Lora.{places, blank, places_of, page}
use Rattle.page.proofs.Lawful.{lawful}
use Rattle.reader.specs.Tests.{registers, keeps}

-- ---- the places' addresses are the reader's order

abbrev addresses : List (Place Link) → List ℕ
addresses [] = []
addresses (p ∷ ps) = p.addr ∷ addresses ps

in_order : (v : Variant) (boost tcxo : Bool) → addresses (places v boost tcxo) ≡ reader_order v tcxo
in_order Sx1272 boost true = refl
in_order Sx1272 boost false = refl
in_order Sx1276 boost true = refl
in_order Sx1276 boost false = refl

count : (ps : List (Place Link)) → length (addresses ps) ≡ length ps
count [] = refl
count (p ∷ ps) = ap suc (count ps)

address_at : (ps : List (Place Link)) (i : ℕ) → i < length ps → get_or (addresses ps) i 0 ≡ (get_or ps i nowhere).addr
address_at [] i h = absurd (omega arith)
address_at (p ∷ ps) zero h = refl
address_at (p ∷ ps) (suc i) h = address_at ps i (omega arith)

-- a board without TCXO has the first registers of the whole order
whole_order : (v : Variant) (tcxo : Bool) (n : ℕ) → n ≤ length (reader_order v tcxo) → take n (reader_order v true) ≡ take n (reader_order v tcxo)
whole_order v true n h = refl
whole_order v false n h = take-append-le n (always v) (reg_tcxo v ∷ []) h

-- ---- places that are kept

pub same_test : (s t : Bool) → (T s → T t) → (T t → T s) → s ≡ t
same_test true true f g = refl
same_test true false f g = absurd (f tt)
same_test false true f g = absurd (g tt)
same_test false false f g = refl

module _ (l : Link) (im : List ℕ) where
  abbrev kept : Place Link → Bool
  kept p = eqb (written p l (get_or im p.addr 0)) (get_or im p.addr 0)

  each : (ps : List (Place Link)) → T (holds ps l im) → (i : ℕ) → i < length ps → T (kept (get_or ps i nowhere))
  each [] t i h = absurd (omega arith)
  each (p ∷ ps) t zero h = (both (kept p) (holds ps l im) t).0
  each (p ∷ ps) t (suc i) h = each ps (both (kept p) (holds ps l im) t).1 i (omega arith)

  all : (ps : List (Place Link)) → ((i : ℕ) → i < length ps → T (kept (get_or ps i nowhere))) → T (holds ps l im)
  all [] k = tt
  all (p ∷ ps) k = joined (kept p) (holds ps l im) (k 0 (omega arith)) (all ps (λ i h. k (suc i) (omega arith)))

module _ (b : Board) where
  pub registers_are : registers b ≡ length (places_of b)
  registers_are = sym (ap length (in_order b.variant b.tx_boost b.tcxo_used)) ∙ count (places_of b)

  -- the guess from one register more
  module _ (i : ℕ) (h : i < registers b) where
    abbrev here : Place Link
    here = get_or (places_of b) i nowhere

    order_at : get_or (reader_order b.variant true) i 0 ≡ here.addr
    order_at =
        let v = b.variant in
        sym (get_or-take (suc i) (reader_order v true) i 0 (omega arith))
        ∙ ap (λ (l : List ℕ). get_or l i 0) (whole_order v b.tcxo_used (suc i) (omega arith))
        ∙ get_or-take (suc i) (reader_order v b.tcxo_used) i 0 (omega arith)
        ∙ ap (λ (l : List ℕ). get_or l i 0) (sym (in_order v b.tx_boost b.tcxo_used))
        ∙ address_at (places_of b) i (omega (arith, registers_are))

    found_here : find here.addr (places_of b) ≡ here
    found_here = find_own (places_of b) (lawful b).own_places i (omega (arith, registers_are))

    pub next_guess : (im : List ℕ) (t : Link) → t ≡ guess (first (page b) i) im
        → let a = get_or (reader_order b.variant true) i 0 in improved (find a (places_of b)) (get_or im a 0) t ≡ guess (first (page b) (suc i)) im
    next_guess im t e =
        ap (λ (a : ℕ). improved (find a (places_of b)) (get_or im a 0) t) order_at
        ∙ ap (λ (p : Place Link). improved p (get_or im here.addr 0) t) found_here
        ∙ ap (improved here (get_or im here.addr 0)) e
        ∙ sym (guess_next (page b) i im nowhere (omega (arith, registers_are)))

    keeps_is : (l : Link) (im : List ℕ) → keeps b l (get_or (reader_order b.variant true) i 0) im ≡ kept l im here
    unfolding keeps
    keeps_is l im = rw (order_at, found_here)

  -- the first n registers hold a link exactly when each of them does
  module _ (l : Link) (im : List ℕ) (n : ℕ) (h : n ≤ registers b) where
    abbrev ps : List (Place Link)
    ps = places_of b

    size : length (take n ps) ≡ n
    size = length-take-le n ps (omega (arith, registers_are))

    pub first_each : T (holds (take n ps) l im) → (i : ℕ) → i < n → T (keeps b l (get_or (reader_order b.variant true) i 0) im)
    first_each t i k =
        rw (keeps_is i (omega arith) l im) (subst (λ (p : Place Link). T (kept l im p)) (get_or-take n ps i nowhere k) (each l im (take n ps) t i (omega (arith, size))))

    pub first_all : ((i : ℕ) → i < n → T (keeps b l (get_or (reader_order b.variant true) i 0) im)) → T (holds (take n ps) l im)
    first_all f =
        all l im (take n ps)
        (λ i k.
        let g : i < n = omega (arith, size) in
        subst (λ (p : Place Link). T (kept l im p)) (sym (get_or-take n ps i nowhere g)) (subst T (keeps_is i (omega arith) l im) (f i g)))

  -- ---- the reader's turns

  pub begins : (im : List ℕ) → T (fits (first (page b) 0) im)
  unfolding fits
  begins im = joined (accepted b.variant blank) true (lawful b).starts tt

  -- a guess is tried on the values that it is from
  pub fit_is : (n : ℕ) (im : List ℕ) (t : Link) → t ≡ guess (first (page b) n) im → (accepted b.variant t && holds (take n (places_of b)) t im) ≡ fits (first (page b) n) im
  unfolding fits
  fit_is n im t e = rw e
