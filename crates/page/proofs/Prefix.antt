-- A reader that goes from place to place, once for every page: the first places of a page are a page.
-- Assumes nothing.
use mathlib.Core.Path.{◌≡◌, refl, ap, ◌∙◌}
use mathlib.Core.Logic.{◌↔◌}
use mathlib.Core.Bool.{not}
use mathlib.Core.List.{List, [], ◌∷◌, ◌++◌}
use Prim.Native.Nat.{ℕ, zero, suc, ◌<◌}
use lib.Dec.{T, eqb}
use lib.ListN.{length, get_or, take}
use lib.Seq.{take-suc}
use Rattle.sheets.proofs.Sweep.{both, joined}
use Rattle.page.specs.Page.{Place, Page, Lawful, Holds, guesses, improved, Clear, free, apart, Accepted, guess, fits, first, Learns}
use Rattle.page.proofs.Demand3.{fits_iff}

-- ---- the first places

module _ {S : Type 0} where
  free_take : (n a : ℕ) (ps : List (Place S)) → T (free a ps) → T (free a (take n ps))
  free_take zero a [] f = f
  free_take zero a (p ∷ ps) f = free_take zero a ps (both (not (eqb a p.addr)) (free a ps) f).1
  free_take (suc n) a [] f = f
  free_take (suc n) a (p ∷ ps) f =
      let h = both (not (eqb a p.addr)) (free a ps) f in
      joined (not (eqb a p.addr)) (free a (take n ps)) h.0 (free_take n a ps h.1)

  apart_take : (n : ℕ) (ps : List (Place S)) → T (apart ps) → T (apart (take n ps))
  apart_take zero ps d = tt
  apart_take (suc n) [] d = tt
  apart_take (suc n) (p ∷ ps) d =
      let h = both (free p.addr ps) (apart ps) d in
      joined (free p.addr (take n ps)) (apart (take n ps)) (free_take n p.addr ps h.0) (apart_take n ps h.1)

  clear_take : (n : ℕ) (s : S) (ps : List (Place S)) → Clear ps s → Clear (take n ps) s
  clear_take zero s ps c = tt
  clear_take (suc n) s [] c = tt
  clear_take (suc n) s (p ∷ ps) c = (c.0, clear_take n s ps c.1)

  guesses_join : (ps qs : List (Place S)) (im : List ℕ) (t : S) → guesses (ps ++ qs) im t ≡ guesses qs im (guesses ps im t)
  guesses_join [] qs im t = refl
  guesses_join (p ∷ ps) qs im t = guesses_join ps qs im _

learns_take : (P : Page) (m n : ℕ) (done ps : List (Place P.Setting)) → Learns P done ps → Learns (first P m) done (take n ps)
learns_take P m zero done ps l = tt
learns_take P m (suc n) done [] l = tt
learns_take P m (suc n) done (p ∷ ps) (step, l) = (step, learns_take P m n (p ∷ done) ps l)

first_lawful : (P : Page) → Lawful P → (n : ℕ) → Lawful (first P n)
first_lawful P L n = record {
  own_places = apart_take n P.places L.own_places;
  clear = λ s h. clear_take n s P.places (L.clear s h);
  starts = L.starts;
  learns = learns_take P n n [] P.places L.learns;
}

-- ---- from place to place

-- the guess from one place more
pub guess_next : (P : Page) (n : ℕ) (im : List ℕ) (d : Place P.Setting) → n < length P.places
    → let p = get_or P.places n d in guess (first P (suc n)) im ≡ improved p (get_or im p.addr 0) (guess (first P n) im)
guess_next P n im d h = ap (λ (ps : List (Place P.Setting)). guesses ps im P.blank) (take-suc P.places n d h) ∙ guesses_join (take n P.places) _ im P.blank

-- the first n values fit exactly when some accepted setting holds them
pub first_fits : (P : Page) → Lawful P → (n : ℕ) (im : List ℕ)
    → T (fits (first P n) im) ↔ ((s : P.Setting) × Accepted P s × Holds (take n P.places) s im)
first_fits P L n im = fits_iff (first P n) (first_lawful P L n) im
