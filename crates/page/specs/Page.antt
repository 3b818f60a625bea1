-- A page of registers: settings that are programmed into an image of 128 bytes and read back from it.
-- What follows for every page is in proofs/Demand3.antt and proofs/Prefix.antt; a page has only to be `Lawful`.
use Rattle.std.specs.Prelude.{◌≡◌, Bool, true, false, ◌&&◌, not, List, [], ◌∷◌, ℕ, ◌+◌, ◌-◌, ◌<◌, T, eqb, ltb, length, get_or, set, take}
use Rattle.std.specs.Int.Bits.{bit_and}
use Rattle.sheets.specs.Bits.{replaced}

-- An image as the host lends it: 128 bytes.
pub record Image (im : List ℕ) : Type 0 where
  pub size : length im ≡ 128
  pub byte : (a : ℕ) → get_or im a 0 < 256

-- ---- places

-- One register of a page: the bits of the old byte that stay, the bits that a setting puts beside them, and how a
-- reader that finds the bits b there improves its guess of the setting.
pub record Place (S : Type 0) : Type 0 where
  pub addr : ℕ
  pub mask : S → ℕ
  pub bits : S → ℕ
  pub learn : ℕ → S → S

abbrev pub pick : {A : Type 0} → Bool → A → A → A
pick true a b = a
pick false a b = b

module _ {S : Type 0} where
  -- the byte that a setting leaves of the old one
  abbrev pub written : Place S → S → ℕ → ℕ
  written p s v = replaced (p.mask s) (p.bits s) v

  -- each place written once
  abbrev pub writes : List (Place S) → S → List ℕ → List ℕ
  writes [] s im = im
  writes (p ∷ ps) s im = writes ps s (set im p.addr (written p s (get_or im p.addr 0)))

  -- an image holds a setting where writing it would change nothing
  abbrev pub Holds : List (Place S) → S → List ℕ → Type 0
  Holds [] s im = Unit {0}
  Holds (p ∷ ps) s im = (written p s (get_or im p.addr 0) ≡ get_or im p.addr 0) × Holds ps s im

  abbrev pub holds : List (Place S) → S → List ℕ → Bool
  holds [] s im = true
  holds (p ∷ ps) s im = eqb (written p s (get_or im p.addr 0)) (get_or im p.addr 0) && holds ps s im

  -- the guess t improved by the byte v at a place: by its bits that would not stay
  abbrev pub improved : Place S → ℕ → S → S
  improved p v t = p.learn (v - bit_and (p.mask t) v) t

  -- the guess from an image
  abbrev pub guesses : List (Place S) → List ℕ → S → S
  guesses [] im t = t
  guesses (p ∷ ps) im t = guesses ps im (improved p (get_or im p.addr 0) t)

  -- the guess from a setting's own bits
  abbrev pub told : List (Place S) → S → S → S
  told [] s t = t
  told (p ∷ ps) s t = told ps s (p.learn (p.bits s) t)

  -- two settings put the same bits into the places
  abbrev pub Agree : List (Place S) → S → S → Type 0
  Agree [] t s = Unit {0}
  Agree (p ∷ ps) t s = (p.bits t ≡ p.bits s) × Agree ps t s

  -- a setting's bits are clear of those that stay, and in the byte
  abbrev pub Clear : List (Place S) → S → Type 0
  Clear [] s = Unit {0}
  Clear (p ∷ ps) s = ((bit_and (p.mask s) (p.bits s) ≡ 0) × (p.mask s + p.bits s < 256)) × Clear ps s

  -- the place of an address, or one that is left as it is and tells nothing
  abbrev pub nowhere : Place S
  nowhere = record { addr = 128; mask = λ s. 255; bits = λ s. 0; learn = λ v t. t }

  abbrev pub find : ℕ → List (Place S) → Place S
  find a [] = nowhere
  find a (p ∷ ps) = pick (eqb a p.addr) p (find a ps)

  -- each place has an address of its own, below 128
  abbrev pub free : ℕ → List (Place S) → Bool
  free a [] = ltb a 128
  free a (p ∷ ps) = not (eqb a p.addr) && free a ps

  abbrev pub apart : List (Place S) → Bool
  apart [] = true
  apart (p ∷ ps) = free p.addr ps && apart ps

-- an address that is none of these
abbrev pub Outside : List ℕ → ℕ → Type 0
Outside [] a = Unit {0}
Outside (e ∷ es) a = Outside es a × (a ≡ e → ⊥)

-- ---- pages

-- The settings, which of them are accepted, the places in the reader's order, and the reader's first guess.
pub record Page : Type 1 where
  pub Setting : Type 0
  pub accepted : Setting → Bool
  pub places : List (Place Setting)
  pub blank : Setting

pub data Reading (S : Type 0) : Type 0 where
  found : S → Reading S
  not_a_setting : Reading S

abbrev pub reading : {S : Type 0} → Bool → S → Reading S
reading true t = found t
reading false t = not_a_setting

module _ (P : Page) where
  abbrev pub Accepted : P.Setting → Type 0
  Accepted s = T (P.accepted s)

  abbrev pub program : P.Setting → List ℕ → List ℕ
  program s im = writes P.places s im

  -- the one setting for all that program the same
  abbrev pub canonical : P.Setting → P.Setting
  canonical s = told P.places s P.blank

  abbrev pub guess : List ℕ → P.Setting
  guess im = guesses P.places im P.blank

  -- the guess is accepted, and the image holds it
  unfoldable pub fits : List ℕ → Bool
  fits im = P.accepted (guess im) && holds P.places (guess im) im

  unfoldable pub read : List ℕ → Reading P.Setting
  read im = reading (fits im) (guess im)

  -- the page of the first n places
  abbrev pub first : ℕ → Page
  first n = record { Setting = P.Setting; accepted = P.accepted; places = take n P.places; blank = P.blank }

-- ---- what a page must show

module _ (P : Page) where
  -- The reader learns: let a guess t agree with s on the places behind it. At the next place it takes the right bits to stay,
  -- and told the bits of s there it becomes an accepted guess that agrees there too.
  abbrev pub Step : List (Place P.Setting) → Place P.Setting → Type 0
  Step done p = (s t : P.Setting) → Accepted P s → Accepted P t → Agree done t s
      → (p.mask t ≡ p.mask s) × Accepted P (p.learn (p.bits s) t) × Agree (p ∷ done) (p.learn (p.bits s) t) s

  -- it learns at each place; the places behind it stand first, the last in front
  abbrev pub Learns : List (Place P.Setting) → List (Place P.Setting) → Type 0
  Learns done [] = Unit {0}
  Learns done (p ∷ ps) = Step done p × Learns (p ∷ done) ps

pub record Lawful (P : Page) : Type 0 where
  pub own_places : T (apart P.places)
  pub clear : (s : P.Setting) → Accepted P s → Clear P.places s
  pub starts : Accepted P P.blank
  pub learns : Learns P [] P.places
