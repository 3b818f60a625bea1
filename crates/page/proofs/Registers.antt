-- The place of each register of LoRa's page, found by its address, and what a register that is no place is left as.
-- Assumes nothing.
use mathlib.Core.Path.{◌≡◌, refl, sym, ap, subst, ◌∙◌}
use mathlib.Core.Bool.{Bool, true, false, cond, ◌&&◌}
use mathlib.Core.List.{List, [], ◌∷◌, ◌++◌}
use Prim.Native.Nat.{ℕ, ◌<◌}
use borrow.Author.Tests.{ne_eqb, eqb-true}
use lib.Dec.{T, eqb}
use Rattle.sheets.specs.declared.Variant.{Variant}
use Rattle.sheets.specs.declared.Variant.TheVariants.{Sx1272, Sx1276}
use Rattle.sheets.proofs.Sweep.{both}
use Rattle.params.specs.declared.mod_params.Link.{Link}
use Rattle.params.specs.declared.board.Board.{Board}
use Rattle.page.specs.Page.{Place, nowhere, written, find, pick, free, Outside}
use Rattle.page.specs.Lora as L
use Rattle.page.specs.Lora.{places, places_of}
use Rattle.page.proofs.Find.{find_free}
use Rattle.page.proofs.Left.{kept_byte}

-- ---- registers of both variants

-- a place that is found on each variant is found on every board
module _ (a : ℕ) (p : Variant → Bool → Place Link)
    (on-72 : (boost tcxo : Bool) → find a (places Sx1272 boost tcxo) ≡ p Sx1272 boost)
    (on-76 : (boost tcxo : Bool) → find a (places Sx1276 boost tcxo) ≡ p Sx1276 boost) where
  by : (v : Variant) (boost tcxo : Bool) → find a (places v boost tcxo) ≡ p v boost
  by Sx1272 = on-72
  by Sx1276 = on-76

  pub found_at : (b : Board) → find a (places_of b) ≡ p b.variant b.tx_boost
  found_at b = by b.variant b.tx_boost b.tcxo_used

pub at_06 : (b : Board) → find 0x06 (places_of b) ≡ L.frf_msb_place
at_06 = found_at 0x06 (λ v boost. L.frf_msb_place) (λ boost tcxo. refl) (λ boost tcxo. refl)

pub at_07 : (b : Board) → find 0x07 (places_of b) ≡ L.frf_mid_place
at_07 = found_at 0x07 (λ v boost. L.frf_mid_place) (λ boost tcxo. refl) (λ boost tcxo. refl)

pub at_08 : (b : Board) → find 0x08 (places_of b) ≡ L.frf_lsb_place
at_08 = found_at 0x08 (λ v boost. L.frf_lsb_place) (λ boost tcxo. refl) (λ boost tcxo. refl)

pub at_09 : (b : Board) → find 0x09 (places_of b) ≡ L.pa_config_place b.variant b.tx_boost
at_09 = found_at 0x09 (λ v boost. L.pa_config_place v boost) (λ boost tcxo. refl) (λ boost tcxo. refl)

pub at_1d : (b : Board) → find 0x1d (places_of b) ≡ L.config_1_place b.variant
at_1d = found_at 0x1d (λ v boost. L.config_1_place v) (λ boost tcxo. refl) (λ boost tcxo. refl)

pub at_1e : (b : Board) → find 0x1e (places_of b) ≡ L.config_2_place b.variant
at_1e = found_at 0x1e (λ v boost. L.config_2_place v) (λ boost tcxo. refl) (λ boost tcxo. refl)

pub at_20 : (b : Board) → find 0x20 (places_of b) ≡ L.preamble_msb_place
at_20 = found_at 0x20 (λ v boost. L.preamble_msb_place) (λ boost tcxo. refl) (λ boost tcxo. refl)

pub at_21 : (b : Board) → find 0x21 (places_of b) ≡ L.preamble_lsb_place
at_21 = found_at 0x21 (λ v boost. L.preamble_lsb_place) (λ boost tcxo. refl) (λ boost tcxo. refl)

pub at_33 : (b : Board) → find 0x33 (places_of b) ≡ L.invert_iq_place
at_33 = found_at 0x33 (λ v boost. L.invert_iq_place) (λ boost tcxo. refl) (λ boost tcxo. refl)

pub at_39 : (b : Board) → find 0x39 (places_of b) ≡ L.sync_word_place
at_39 = found_at 0x39 (λ v boost. L.sync_word_place) (λ boost tcxo. refl) (λ boost tcxo. refl)

pub at_0e : (b : Board) → find 0x0e (places_of b) ≡ L.tx_base_place
at_0e = found_at 0x0e (λ v boost. L.tx_base_place) (λ boost tcxo. refl) (λ boost tcxo. refl)

pub at_0f : (b : Board) → find 0x0f (places_of b) ≡ L.rx_base_place
at_0f = found_at 0x0f (λ v boost. L.rx_base_place) (λ boost tcxo. refl) (λ boost tcxo. refl)

pub at_31 : (b : Board) → find 0x31 (places_of b) ≡ L.detect_optimize_place
at_31 = found_at 0x31 (λ v boost. L.detect_optimize_place) (λ boost tcxo. refl) (λ boost tcxo. refl)

pub at_37 : (b : Board) → find 0x37 (places_of b) ≡ L.detect_threshold_place
at_37 = found_at 0x37 (λ v boost. L.detect_threshold_place) (λ boost tcxo. refl) (λ boost tcxo. refl)

pub at_3b : (b : Board) → find 0x3b (places_of b) ≡ L.invert_iq2_place
at_3b = found_at 0x3b (λ v boost. L.invert_iq2_place) (λ boost tcxo. refl) (λ boost tcxo. refl)

-- ---- registers that are none of a list

abbrev pub member : ℕ → List ℕ → Bool
member a [] = false
member a (e ∷ es) = cond (eqb a e) true (member a es)

pub not_member : (es : List ℕ) (a : ℕ) → Outside es a → T (member a es) → ⊥
not_member [] a o m = m
not_member (e ∷ es) a (o, n) m = by (eqb a e) refl (not_member es a o) m
  where
    by : (t : Bool) → eqb a e ≡ t → (T (member a es) → ⊥) → T (cond t true (member a es)) → ⊥
    by true q r u = n (eqb-true a e q)
    by false q r u = r u

pub outside_both : (es fs : List ℕ) (a : ℕ) → Outside es a → Outside fs a → Outside (es ++ fs) a
outside_both [] fs a o k = k
outside_both (e ∷ es) fs a (o, n) k = (outside_both es fs a o k, n)

-- each place is of a register of the list
abbrev pub among : List ℕ → List (Place Link) → Bool
among es [] = true
among es (p ∷ ps) = member p.addr es && among es ps

find_outside : (es : List ℕ) (a : ℕ) → Outside es a → (ps : List (Place Link)) → T (among es ps) → find a ps ≡ nowhere
find_outside es a o [] m = refl
find_outside es a o (p ∷ ps) m =
    let k = both (member p.addr es) (among es ps) m in
    let other : a ≡ p.addr → ⊥ = λ e. not_member es a o (subst (λ (x : ℕ). T (member x es)) (sym e) k.0) in
    ap (λ (t : Bool). pick t p (find a ps)) (ne_eqb a p.addr other) ∙ find_outside es a o ps k.1

-- ---- registers that are no place

module _ (ps : List (Place Link)) (a : ℕ) (l : Link) (old : ℕ) (h : old < 256) where
  pub unused : T (free a ps) → old ≡ written (find a ps) l old
  unused f = rw (find_free a ps f) (kept_byte old h)

  pub outside : (es : List ℕ) → Outside es a → T (among es ps) → old ≡ written (find a ps) l old
  outside es o m = rw (find_outside es a o ps m) (kept_byte old h)
