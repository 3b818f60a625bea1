-- All registers at once: they hold a link exactly when each does, and the guess from them is what those tell that tell something.
-- Assumes nothing.
use mathlib.Core.Path.{◌≡◌, refl, subst}
use mathlib.Core.Bool.{Bool, true, false, cond, ◌&&◌}
use mathlib.Core.List.{List, [], ◌∷◌}
use Prim.Native.Nat.{ℕ, suc, ◌<◌}
use native.Mathlib.Omega.{arith}
use borrow.Author.Tests.{eqb-true}
use lib.Dec.{T, eqb, eqb_refl}
use lib.ListN.{length, get_or}
use Rattle.sheets.specs.declared.Variant.{Variant}
use Rattle.sheets.specs.declared.Variant.TheVariants.{Sx1272, Sx1276}
use Rattle.sheets.proofs.Sweep.{both, joined}
use Rattle.params.specs.declared.mod_params.Link.{Link}
use Rattle.params.specs.declared.board.Board.{Board}
use Rattle.page.specs.Page.{Image, Place, nowhere, find, pick, written, holds, guesses, guess}
use Rattle.page.specs.Lora.{places, places_of, blank, page}
use Rattle.page.proofs.Find.{find_own}
use Rattle.page.proofs.Left.{kept_byte}
use Rattle.page.proofs.Lawful.{lawful}
use Rattle.page.proofs.Registers.{member, among}
use Rattle.reader.specs.Tests.{keeps, learnt}
use Rattle.reader.proofs.SoFar.{same_test}

-- ---- registers that are kept

-- the registers of either variant's order, the first and the others
abbrev others : List ℕ
others =
    0x07 ∷ 0x08 ∷ 0x09 ∷ 0x0a ∷ 0x0b ∷ 0x0e ∷ 0x0f ∷ 0x1d ∷ 0x1e ∷ 0x20 ∷ 0x21 ∷ 0x26 ∷ 0x31 ∷ 0x33 ∷ 0x37 ∷ 0x39 ∷ 0x3b ∷ 0x4b ∷ 0x4d ∷ 0x58 ∷ 0x5a ∷ []

abbrev programmed : List ℕ
programmed = 0x06 ∷ others

all_among : (v : Variant) (boost tcxo : Bool) → T (among programmed (places v boost tcxo))
all_among Sx1272 boost true = tt
all_among Sx1272 boost false = tt
all_among Sx1276 boost true = tt
all_among Sx1276 boost false = tt

module _ (l : Link) (im : List ℕ) where
  abbrev kept : Place Link → ℕ → Bool
  kept p a = eqb (written p l (get_or im a 0)) (get_or im a 0)

  -- each place is kept where the registers of a list are that it is of
  module _ (qs : List (Place Link)) (es : List ℕ) (k : (a : ℕ) → T (member a es) → T (kept (find a qs) a)) where
    all : (ps : List (Place Link)) → T (among es ps) → ((i : ℕ) → i < length ps → find (get_or ps i nowhere).addr qs ≡ get_or ps i nowhere) → T (holds ps l im)
    all [] m f = tt
    all (p ∷ ps) m f =
        let h = both (member p.addr es) (among es ps) m in
        joined (kept p p.addr) (holds ps l im) (subst (λ (q : Place Link). T (kept q p.addr)) (f 0 (omega arith)) (k p.addr h.0)) (all ps h.1 (λ i n. f (suc i) (omega arith)))

  -- and any register is kept where each place is
  any : (ps : List (Place Link)) → T (holds ps l im) → (a : ℕ) → get_or im a 0 < 256 → T (kept (find a ps) a)
  any [] t a h = rw (← kept_byte (get_or im a 0) h) (eqb_refl (get_or im a 0))
  any (p ∷ ps) t a h = by (eqb a p.addr) refl (any ps (both (kept p p.addr) (holds ps l im) t).1 a h)
    where
      by : (d : Bool) → eqb a p.addr ≡ d → T (kept (find a ps) a) → T (kept (pick d p (find a ps)) a)
      by true e r = rw (eqb-true a p.addr e) (both (kept p p.addr) (holds ps l im) t).0
      by false e r = r

-- the registers of a list, each kept
abbrev Each : Board → Link → List ℕ → List ℕ → Type 0
Each b l im [] = Unit {0}
Each b l im (a ∷ more) = T (keeps b l a im) × Each b l im more

module _ (b : Board) (l : Link) (im : List ℕ) where
  of_each : (es : List ℕ) → Each b l im es → (a : ℕ) → T (member a es) → T (keeps b l a im)
  of_each [] k a m = absurd m
  of_each (e ∷ es) k a m = by (eqb a e) refl (of_each es k.1 a) m
    where
      by : (d : Bool) → eqb a e ≡ d → (T (member a es) → T (keeps b l a im)) → T (cond d true (member a es)) → T (keeps b l a im)
      by true q r u = rw (eqb-true a e q) k.0
      by false q r u = r u

  holds_all : Each b l im programmed → T (holds (places_of b) l im)
  unfolding keeps
  holds_all k =
      all l im (places_of b) programmed (of_each programmed k) (places_of b) (all_among b.variant b.tx_boost b.tcxo_used)
      (find_own (places_of b) (lawful b).own_places)

  holds_any : Image im → T (holds (places_of b) l im) → (a : ℕ) → T (keeps b l a im)
  unfolding keeps
  holds_any I t a = any l im (places_of b) t a (I.byte a)

  -- the tests of a list, after one
  abbrev tests : Bool → List ℕ → Bool
  tests t [] = t
  tests t (a ∷ es) = tests (t && keeps b l a im) es

  of_tests : (es : List ℕ) (t : Bool) → T (tests t es) → T t × Each b l im es
  of_tests [] t h = (h, tt)
  of_tests (a ∷ es) t h =
      let (first, more) = of_tests es (t && keeps b l a im) h in
      let (before, here) = both t (keeps b l a im) first in
      (before, (here, more))

  to_tests : ((a : ℕ) → T (keeps b l a im)) → (es : List ℕ) (t : Bool) → T t → T (tests t es)
  to_tests k [] t h = h
  to_tests k (a ∷ es) t h = to_tests k es (t && keeps b l a im) (joined t (keeps b l a im) h (k a))

  pub all_tested : Image im → tests (keeps b l 0x06 im) others ≡ holds (places_of b) l im
  all_tested I =
      let t = keeps b l 0x06 im in
      same_test (tests t others) (holds (places_of b) l im)
      (λ h. holds_all (of_tests others t h))
      (λ h. let k = holds_any I h in to_tests k others t (k 0x06))

-- ---- the guess

abbrev telling : List ℕ
telling = 0x06 ∷ 0x07 ∷ 0x08 ∷ 0x09 ∷ 0x1d ∷ 0x1e ∷ 0x20 ∷ 0x21 ∷ 0x33 ∷ 0x39 ∷ 0x5a ∷ []

told : (v : Variant) (boost tcxo : Bool) (im : List ℕ) → learnt (places v boost tcxo) im telling blank ≡ guesses (places v boost tcxo) im blank
told Sx1272 boost true im = refl
told Sx1272 boost false im = refl
told Sx1276 boost true im = refl
told Sx1276 boost false im = refl

pub all_told : (b : Board) (im : List ℕ) → learnt (places_of b) im telling blank ≡ guess (page b) im
all_told b im = told b.variant b.tx_boost b.tcxo_used im
