-- What the places that differ by variant tell, and that the others tell nothing new.
-- Assumes nothing.
use mathlib.Core.Path.{◌≡◌, refl, sym, ap, subst}
use mathlib.Core.Logic.{◌⊎◌, inl, inr}
use mathlib.Core.Bool.{Bool, true, false}
use mathlib.Core.List.{List, [], ◌∷◌}
use Prim.Native.Nat.{ℕ}
use native.Mathlib.Nat.{sub-zero}
use lib.Dec.{T, eqb}
use borrow.Author.Tests.{eqb-true}
use Rattle.sheets.specs.declared.Variant.{Variant}
use Rattle.sheets.specs.declared.Variant.TheVariants.{Sx1272, Sx1276}
use Rattle.params.specs.declared.mod_params.Link.{Link}
use Rattle.page.specs.Page.{Place, improved, find, pick, Outside}
use Rattle.page.specs.Lora as L
use Rattle.page.specs.Lora.{places}
use Rattle.page.proofs.Acceptance.{◌▸◌}
use Rattle.page.proofs.Registers.{member, not_member}

-- ---- registers that tell something

-- the first modem register is written whole on either variant
pub told_1d : (w : Variant) (v : ℕ) (t : Link) → improved (L.config_1_place w) v t ≡ (L.config_1_place w).learn v t
told_1d Sx1272 v t = ap (λ (x : ℕ). (L.config_1_place Sx1272).learn x t) (sub-zero v)
told_1d Sx1276 v t = ap (λ (x : ℕ). (L.config_1_place Sx1276).learn x t) (sub-zero v)

-- RegPaDac of the SX1272, where the SX1276 has no place
pub told_5a_72 : (boost tcxo : Bool) (v : ℕ) (t : Link) → improved (find 0x5a (places Sx1272 boost tcxo)) v t ≡ (L.pa_dac_place Sx1272 boost).learn v t
told_5a_72 boost tcxo v t = ap (λ (x : ℕ). (L.pa_dac_place Sx1272 boost).learn x t) (sub-zero v)

pub told_5a_76 : (boost tcxo : Bool) (v : ℕ) (t : Link) → improved (find 0x5a (places Sx1276 boost tcxo)) v t ≡ t
told_5a_76 boost true v t = refl
told_5a_76 boost false v t = refl

-- ---- all the others tell nothing new

-- each place is of a register among these or tells nothing
abbrev Quiet : List ℕ → List (Place Link) → Type 0
Quiet es [] = Unit {0}
Quiet es (p ∷ ps) = (T (member p.addr es) ⊎ ((v : ℕ) (t : Link) → p.learn v t ≡ t)) × Quiet es ps

quiet : (es : List ℕ) (ps : List (Place Link)) → Quiet es ps → (a : ℕ) → Outside es a → (v : ℕ) (t : Link) → improved (find a ps) v t ≡ t
quiet es [] q a o v t = refl
quiet es (p ∷ ps) (here, q) a o v t = by (eqb a p.addr) refl (quiet es ps q a o v t)
  where
    tells : (T (member p.addr es) ⊎ ((v : ℕ) (t : Link) → p.learn v t ≡ t)) → a ≡ p.addr → improved p v t ≡ t
    tells (inl m) e = absurd (not_member es a o (subst (λ (x : ℕ). T (member x es)) (sym e) m))
    tells (inr f) e = f _ t

    by : (b : Bool) → eqb a p.addr ≡ b → improved (find a ps) v t ≡ t → improved (pick b p (find a ps)) v t ≡ t
    by true e r = tells here (eqb-true a p.addr e)
    by false e r = r

abbrev pub telling : List ℕ
telling = 0x5a ∷ 0x39 ∷ 0x33 ∷ 0x21 ∷ 0x20 ∷ 0x1e ∷ 0x1d ∷ 0x09 ∷ 0x08 ∷ 0x07 ∷ 0x06 ∷ []

tail_quiet : (w : Variant) (tcxo : Bool) → Quiet telling (L.oscillator w tcxo)
tail_quiet w true = inr (λ v t. refl) ▸ tt
tail_quiet w false = tt

places_quiet : (w : Variant) (boost tcxo : Bool) → Quiet telling (places w boost tcxo)
places_quiet Sx1276 boost tcxo =
    inl tt ▸ inl tt ▸ inl tt ▸ inl tt ▸ inr (λ v t. refl) ▸ inr (λ v t. refl) ▸ inr (λ v t. refl) ▸ inr (λ v t. refl) ▸ inl tt ▸ inl tt
    ▸ inr (λ v t. refl) ▸ inl tt ▸ inl tt ▸ inr (λ v t. refl) ▸ inl tt ▸ inr (λ v t. refl) ▸ inl tt ▸ inr (λ v t. refl)
    ▸ inr (λ v t. refl) ▸ tail_quiet Sx1276 tcxo
places_quiet Sx1272 boost tcxo =
    inl tt ▸ inl tt ▸ inl tt ▸ inl tt ▸ inr (λ v t. refl) ▸ inr (λ v t. refl) ▸ inr (λ v t. refl) ▸ inl tt ▸ inl tt
    ▸ inl tt ▸ inl tt ▸ inr (λ v t. refl) ▸ inl tt ▸ inr (λ v t. refl) ▸ inl tt ▸ inr (λ v t. refl)
    ▸ inl tt ▸ tail_quiet Sx1272 tcxo

pub told_others : (w : Variant) (boost tcxo : Bool) (a : ℕ) → Outside telling a → (v : ℕ) (t : Link) → t ≡ improved (find a (places w boost tcxo)) v t
told_others w boost tcxo a o v t = sym (quiet telling (places w boost tcxo) (places_quiet w boost tcxo) a o v t)
