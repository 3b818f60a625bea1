-- What the registers show of the clamped power: each law is one test at every power of every output.
-- Assumes nothing.
use mathlib.Core.Path.{◌≡◌, refl, sym, ap, ◌∙◌}
use mathlib.Core.Bool.{Bool, cond}
use Prim.Native.Nat.{ℕ, ◌+◌, ◌<◌}
use lib.Dec.{eqb, ltb, eqb→eq, ltb→lt}
use lib.IntN.{ℤ}
use Rattle.sheets.specs.declared.Variant.{Variant}
use Rattle.sheets.specs.declared.Variant.TheVariants.{Sx1276}
use Rattle.sheets.specs.Bits.{at}
use Rattle.sheets.specs.Registers as R
use Rattle.sheets.specs.Power.{clamped, strong, outputs, pa_config, pa_dac, ocp}
use Rattle.sheets.proofs.Sweep.{sameℤ, sameℤ→eq}
use Rattle.tx_power.proofs.levels.Clamped.{at_clamped, config_of, dac_of_lem, ocp_of}
use Rattle.page.specs.Lora.{shown, shown_with}

-- RegPaDac by the clamped power
abbrev dac_of : Variant → Bool → ℤ → ℕ
dac_of v boost c = at (R.pa_dac_reserved v) 0x10 + at (R.pa_dac v) (cond (strong boost c) 7 4)

module _ (v : Variant) (boost : Bool) (p : ℤ) where
  pub config_lt : pa_config v boost p < 256
  unfolding pa_config
  config_lt = ltb→lt _ 256 (at_clamped (λ v boost c. ltb (outputs v boost c) 256) tt tt tt tt v boost p)

  pub dac_lt : pa_dac v boost p < 256
  unfolding pa_dac
  dac_lt = ltb→lt _ 256 (at_clamped (λ v boost c. ltb (dac_of v boost c) 256) tt tt tt tt v boost p)

  -- the power that RegPaConfig shows leaves RegPaConfig again
  pub config_shown : pa_config v boost (shown v boost (pa_config v boost p)) ≡ pa_config v boost p
  unfolding pa_config shown clamped
  config_shown = eqb→eq _ _ (at_clamped (λ v boost c. eqb (outputs v boost (clamped v boost (shown v boost (outputs v boost c)))) (outputs v boost c)) tt tt tt tt v boost p)

  -- with RegPaDac the clamped power itself is shown
  pub clamped_shown : shown_with v boost (pa_config v boost p) (pa_dac v boost p) ≡ clamped v boost p
  unfolding pa_config pa_dac shown shown_with
  clamped_shown = sameℤ→eq _ _ (at_clamped (λ v boost c. sameℤ (shown_with v boost (outputs v boost c) (dac_of v boost c)) c) tt tt tt tt v boost p)

-- links of one RegPaConfig have, with one RegPaDac, the clamped power of the second and so its registers
module _ (v : Variant) (boost : Bool) (p q : ℤ) (same : pa_config v boost q ≡ pa_config v boost p) where
  abbrev pub told : ℤ
  told = shown_with v boost (pa_config v boost q) (pa_dac v boost p)

  is_clamped : told ≡ clamped v boost p
  is_clamped = ap (λ (x : ℕ). shown_with v boost x (pa_dac v boost p)) same ∙ clamped_shown v boost p

  pub config_told : pa_config v boost told ≡ pa_config v boost p
  config_told = config_of v boost p is_clamped

  pub dac_told : pa_dac v boost told ≡ pa_dac v boost p
  dac_told = dac_of_lem v boost p is_clamped

-- on the SX1276 RegPaConfig alone tells the power, and so RegOcp and RegPaDac
module _ (boost : Bool) where
  pub alone : (p : ℤ) → shown Sx1276 boost (pa_config Sx1276 boost p) ≡ clamped Sx1276 boost p
  unfolding shown_with
  alone p = clamped_shown Sx1276 boost p

  pub ocp_lt : (p : ℤ) → ocp boost p < 256
  unfolding ocp
  ocp_lt p = ltb→lt _ 256 (at_clamped (λ v boost c. ltb (at R.ocp_on 1 + at R.ocp_trim (cond (strong boost c) 0x1b 0x0b)) 256) tt tt tt tt Sx1276 boost p)

  module _ (p q : ℤ) (same : pa_config Sx1276 boost q ≡ pa_config Sx1276 boost p) where
    one : clamped Sx1276 boost q ≡ clamped Sx1276 boost p
    one = sym (alone q) ∙ ap (shown Sx1276 boost) same ∙ alone p

    pub ocp_shown : ocp boost q ≡ ocp boost p
    ocp_shown = sym (ocp_of boost q refl) ∙ ap (ocp boost) one ∙ ocp_of boost p refl

    pub dac_shown : pa_dac Sx1276 boost q ≡ pa_dac Sx1276 boost p
    dac_shown = sym (dac_of_lem Sx1276 boost q refl) ∙ ap (pa_dac Sx1276 boost) one ∙ dac_of_lem Sx1276 boost p refl
