-- Demand 3, once for every page: what programming leaves, and what the reader makes of it.
-- Assumes nothing.
use mathlib.Core.Path.{◌≡◌, refl, sym, ap, ap₂, ◌∙◌, subst}
use mathlib.Core.Logic.{◌≢◌, ◌↔◌}
use mathlib.Core.Bool.{Bool, true, false, not}
use mathlib.Core.List.{List, [], ◌∷◌}
use Prim.Native.Nat.{ℕ, ◌-◌, ◌<◌}
use native.Mathlib.Decide.{ℕ_discrete}
use native.Mathlib.Omega.{arith}
use lib.Dec.{T, eqb, eqb→eq, eqb_refl, ltb→lt, T_not}
use lib.ListN.{get_or, set, length-set}
use lib.Seq.{get_or-set_same, get_or-set_other, set-get_or}
use lib.Bits.{bit_and}
use Rattle.sheets.specs.Bits.{replaced}
use Rattle.sheets.proofs.Sweep.{both, joined}
use Rattle.page.specs.Page.{Image, Place, Page, Lawful, Reading, Reading.found, Reading.not_a_setting, reading, written, writes, Holds, holds, guesses, told, Agree, Clear, free, apart, Accepted, program, canonical, guess, fits, read, Learns}
use Rattle.page.proofs.Mask.{again, rest, in_byte}

-- ---- programming

image_set : {im : List ℕ} (i x : ℕ) → i < 128 → x < 256 → Image im → Image (set im i x)
image_set {im} i x hi hx I = record { size = length-set im i x ∙ I.size; byte = λ a. at a (ℕ_discrete a i) }
  where
    at : (a : ℕ) → Dec (a ≡ i) → get_or (set im i x) a 0 < 256
    at a (yes e) = rw (e, get_or-set_same im i x 0 (omega (arith, I.size))) hx
    at a (no n) = rw (get_or-set_other im i a x 0 n) (I.byte a)

module _ {S : Type 0} where
  pub free_tail : (a : ℕ) (p : Place S) (ps : List (Place S)) → T (free a (p ∷ ps)) → (a ≢ p.addr) × T (free a ps)
  free_tail a p ps f =
      let h = both (not (eqb a p.addr)) (free a ps) f in
      ((λ e. T_not (eqb a p.addr) h.0 (subst (λ (x : ℕ). T (eqb a x)) e (eqb_refl a))), h.1)

  pub below : (a : ℕ) (ps : List (Place S)) → T (free a ps) → a < 128
  below a [] f = ltb→lt a 128 f
  below a (p ∷ ps) f = below a ps (free_tail a p ps f).1

  -- an address that is none of the places'
  pub untouched : (s : S) (a : ℕ) (ps : List (Place S)) (im : List ℕ) → T (free a ps) → get_or (writes ps s im) a 0 ≡ get_or im a 0
  untouched s a [] im f = refl
  untouched s a (p ∷ ps) im f = let h = free_tail a p ps f in untouched s a ps _ h.1 ∙ get_or-set_other im p.addr a _ 0 h.0

  -- the byte that is left at the first place
  left_first : (s : S) (p : Place S) (ps : List (Place S)) (im : List ℕ) → T (free p.addr ps) → Image im
      → get_or (writes (p ∷ ps) s im) p.addr 0 ≡ written p s (get_or im p.addr 0)
  left_first s p ps im f I =
      let a = below p.addr ps f in
      untouched s p.addr ps _ f ∙ get_or-set_same im p.addr _ 0 (omega (arith, I.size))

  -- programming leaves an image that holds the setting
  writes_hold : (s : S) (ps : List (Place S)) (im : List ℕ) → T (apart ps) → Clear ps s → Image im
      → Image (writes ps s im) × Holds ps s (writes ps s im)
  writes_hold s [] im d c I = (I, tt)
  writes_hold s (p ∷ ps) im d c I =
      let h = both (free p.addr ps) (apart ps) d in
      let v = get_or im p.addr 0 in
      let byte = in_byte (p.mask s) (p.bits s) v c.0.0 c.0.1 in
      let r = writes_hold s ps _ h.1 c.1 (image_set p.addr (written p s v) (below p.addr ps h.0) byte I) in
      let here = left_first s p ps im h.0 I in
      (r.0, (ap (written p s) here ∙ again (p.mask s) (p.bits s) v c.0.0 ∙ sym here, r.1))

  -- and changes no image that does
  held : (s : S) (ps : List (Place S)) (im : List ℕ) → Holds ps s im → writes ps s im ≡ im
  held s [] im h = refl
  held s (p ∷ ps) im h =
      ap (λ (v : ℕ). writes ps s (set im p.addr v)) h.0 ∙ ap (writes ps s) (set-get_or im p.addr 0) ∙ held s ps im h.1

  holds→Holds : (s : S) (ps : List (Place S)) (im : List ℕ) → T (holds ps s im) → Holds ps s im
  holds→Holds s [] im t = tt
  holds→Holds s (p ∷ ps) im t =
      let v = get_or im p.addr 0 in
      let h = both (eqb (written p s v) v) (holds ps s im) t in
      (eqb→eq (written p s v) v h.0, holds→Holds s ps im h.1)

  Holds→holds : (s : S) (ps : List (Place S)) (im : List ℕ) → Holds ps s im → T (holds ps s im)
  Holds→holds s [] im h = tt
  Holds→holds s (p ∷ ps) im h =
      let v = get_or im p.addr 0 in
      let here = subst (λ (x : ℕ). T (eqb (written p s v) x)) h.0 (eqb_refl (written p s v)) in
      joined (eqb (written p s v) v) (holds ps s im) here (Holds→holds s ps im h.1)

found_is : {S : Type 0} (b : Bool) (u t : S) → reading b u ≡ found t → T b × (u ≡ t)
found_is true u t e = (tt, cc)
found_is false u t e = absurd (let z : ◌≡◌ {A = ℕ} 0 1 = cc in omega arith)

pub found_if : {S : Type 0} (b : Bool) (t : S) → T b → reading b t ≡ found t
found_if true t h = refl
found_if false t h = absurd h

pub refused_if : {S : Type 0} (b : Bool) (t : S) → ¬ T b → reading b t ≡ not_a_setting
refused_if true t h = absurd (h tt)
refused_if false t h = refl

-- ---- the reader's guess

module _ (P : Page) where
  -- from an image that holds s the guess is what s tells, and agrees with s
  learnt : (done ps : List (Place P.Setting)) (im : List ℕ) → Learns P done ps → (s t : P.Setting) → Accepted P s → Accepted P t → Agree done t s
      → Clear ps s → Holds ps s im
      → let u = told ps s t in (guesses ps im t ≡ u) × Accepted P u × Agree done u s × Agree ps u s
  learnt done [] im l s t hs ht a c h = (refl, ht, a, tt)
  learnt done (p ∷ ps) im (step, l) s t hs ht a c h =
      let v = get_or im p.addr 0 in
      let (m, hu, b) = step s t hs ht a in
      let r = learnt (p ∷ done) ps im l s (p.learn (p.bits s) t) hs hu b c.1 h.1 in
      let seen : v - bit_and (p.mask t) v ≡ p.bits s = ap (λ (x : ℕ). v - bit_and x v) m ∙ rest (p.mask s) (p.bits s) v c.0.0 h.0 in
      (ap (λ (x : ℕ). guesses ps im (p.learn x t)) seen ∙ r.0, r.1, r.2.1, (r.2.0, r.3))

  -- accepted settings that agree program the same, and an image that holds one holds the other
  alike : (done ps : List (Place P.Setting)) → Learns P done ps → (s u : P.Setting) → Accepted P s → Accepted P u → Agree done u s → Agree ps u s
      → ((im : List ℕ) → writes ps u im ≡ writes ps s im) × ((im : List ℕ) → Holds ps s im → Holds ps u im)
  alike done [] l s u hs hu a b = ((λ im. refl), (λ im h. tt))
  alike done (p ∷ ps) (step, l) s u hs hu a b =
      let same : (v : ℕ) → written p u v ≡ written p s v = λ v. ap₂ (λ (m x : ℕ). replaced m x v) (step s u hs hu a).0 b.0 in
      let r = alike (p ∷ done) ps l s u hs hu (b.0, a) b.1 in (
        (λ im. ap (λ (x : ℕ). writes ps u (set im p.addr x)) (same (get_or im p.addr 0)) ∙ r.0 _),
        (λ im h. (same (get_or im p.addr 0) ∙ h.0, r.1 im h.1)),
      )

-- ---- demand 3

module _ (P : Page) (L : Lawful P) where
  leaves : (s : P.Setting) (im : List ℕ) → Accepted P s → Image im → Image (program P s im) × Holds P.places s (program P s im)
  leaves s im hs I = writes_hold s P.places im L.own_places (L.clear s hs) I

  -- the guess from an image that holds s is the canonical setting, which is accepted, agrees with s and so makes the image fit
  settles : (s : P.Setting) (im : List ℕ) → Accepted P s → Holds P.places s im
      → (guess P im ≡ canonical P s) × T (fits P im) × ((start : List ℕ) → program P (canonical P s) start ≡ program P s start)
  unfolding fits
  settles s im hs h =
      let (e, hu, a, b) = learnt P [] P.places im L.learns s P.blank hs L.starts tt (L.clear s hs) h in
      let u = canonical P s in
      let (same, hold) = alike P [] P.places L.learns s u hs hu tt b in
      (e, rw e (joined (P.accepted u) (holds P.places u im) hu (Holds→holds u P.places im (hold im h))), same)

  fits_holds : (im : List ℕ) → T (fits P im) → Accepted P (guess P im) × Holds P.places (guess P im) im
  unfolding fits
  fits_holds im t =
      let h = both (P.accepted (guess P im)) (holds P.places (guess P im) im) t in
      (h.0, holds→Holds (guess P im) P.places im h.1)

  -- an image fits exactly when it holds some accepted setting
  pub fits_iff : (im : List ℕ) → T (fits P im) ↔ ((s : P.Setting) × Accepted P s × Holds P.places s im)
  fits_iff im = ((λ t. let h = fits_holds im t in (guess P im, h.0, h.1)), (λ (s, hs, h). (settles s im hs h).1))

  -- and then it holds the guess
  pub fits_guess : (im : List ℕ) → T (fits P im) ↔ (Accepted P (guess P im) × Holds P.places (guess P im) im)
  fits_guess im = (fits_holds im, (λ (hg, h). (fits_iff im).1 (guess P im, hg, h)))

  -- programming again changes no byte
  pub idempotent : (s : P.Setting) (im : List ℕ) → Accepted P s → Image im → program P s (program P s im) ≡ program P s im
  idempotent s im hs I = held s P.places _ (leaves s im hs I).1

  -- what programming leaves is an image again
  pub image_left : (s : P.Setting) (im : List ℕ) → Accepted P s → Image im → Image (program P s im)
  image_left s im hs I = (leaves s im hs I).0

  -- the reader returns the canonical setting from what programming left
  pub read_program : (s : P.Setting) (im : List ℕ) → Accepted P s → Image im → read P (program P s im) ≡ found (canonical P s)
  unfolding read
  read_program s im hs I =
      let (e, t, same) = settles s (program P s im) hs (leaves s im hs I).1 in
      rw e (found_if (fits P (program P s im)) (canonical P s) t)

  -- what the reader returns is accepted, and leaves this very image
  read_sound : (im : List ℕ) (t : P.Setting) → read P im ≡ found t → Accepted P t × (program P t im ≡ im)
  unfolding read
  read_sound im t e =
      let (f, q) = found_is (fits P im) (guess P im) t e in
      let h : Accepted P t × Holds P.places t im = rw q at (fits_holds im f) in
      (h.0, held t P.places im h.1)

  -- two settings leave equal images exactly when they are one
  pub same_image : (s t : P.Setting) (im : List ℕ) → Accepted P s → Accepted P t → Image im
      → (program P s im ≡ program P t im) ↔ (canonical P s ≡ canonical P t)
  same_image s t im hs ht I = (forth, back)
    where
      canonically : (s : P.Setting) → Accepted P s → program P (canonical P s) im ≡ program P s im
      canonically s hs = (settles s (program P s im) hs (leaves s im hs I).1).2 im

      forth : program P s im ≡ program P t im → canonical P s ≡ canonical P t
      forth e = cc (read_program s im hs I, read_program t im ht I)

      back : canonical P s ≡ canonical P t → program P s im ≡ program P t im
      back e = sym (canonically s hs) ∙ ap (λ (u : P.Setting). program P u im) e ∙ canonically t ht

  -- the reader refuses exactly the images that no accepted setting leaves from any start
  pub refused : (im : List ℕ) → Image im
      → (read P im ≡ not_a_setting) ↔ ¬ ((s : P.Setting) × (start : List ℕ) × Accepted P s × Image start × (program P s start ≡ im))
  refused im I = (forth, (λ h. back (read P im) refl h))
    where
      Left : Type 0
      Left = (s : P.Setting) × (start : List ℕ) × Accepted P s × Image start × (program P s start ≡ im)

      forth : read P im ≡ not_a_setting → ¬ Left
      forth e (s, start, hs, J, q) = let z : ◌≡◌ {A = ℕ} 0 1 = cc (read_program s start hs J) in omega arith

      back : (a : Reading P.Setting) → read P im ≡ a → ¬ Left → read P im ≡ not_a_setting
      back not_a_setting e h = e
      back (found t) e h = let r = read_sound im t e in absurd (h (t, im, r.0, I, r.1))
