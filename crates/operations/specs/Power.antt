-- `set_tx_power_and_ramp_time`.
use Rattle.std.specs.Prelude.{Bool, List, [], ◌∷◌, ◌++◌, ℕ, zero, suc, ℤ}
use Rattle.sheets.specs.declared.Variant.{Variant}
use Rattle.sheets.specs.declared.Variant.TheVariants.{Sx1272, Sx1276}
use Rattle.sheets.specs.Registers.{reg_pa_config, reg_pa_ramp, reg_ocp, reg_pa_dac}
use Rattle.sheets.specs.Power.{pa_config, pa_dac, ocp, pa_ramp}
use Rattle.params.specs.declared.board.Board.{Board}
use Rattle.refusals.specs.Refusals.{flag}
use Rattle.bus.specs.Steps.{Step, Write}
use Rattle.bus.specs.Call.{Outcome, call, well}

abbrev pub amplifier : Variant → Bool → ℤ → List Step
amplifier Sx1276 boost p = Write (reg_pa_dac Sx1276) (pa_dac Sx1276 boost p) ∷ Write reg_ocp (ocp boost p) ∷ Write reg_pa_config (pa_config Sx1276 boost p) ∷ []
amplifier Sx1272 boost p = Write reg_pa_config (pa_config Sx1272 boost p) ∷ Write (reg_pa_dac Sx1272) (pa_dac Sx1272 boost p) ∷ []

-- 40 µs before a transmission, else 250 µs
abbrev pub ramp_code : ℕ → ℕ
ramp_code zero = 4
ramp_code (suc f) = 9

abbrev pub power : Variant → Bool → ℤ → ℕ → List Step
power v boost p prep = amplifier v boost p ++ (Write reg_pa_ramp (pa_ramp v (ramp_code prep)) ∷ [])

abbrev pub set_power : Board → ℤ → ℕ → List ℕ → List ℕ → ℕ → Outcome
set_power b p prep = call (flag prep) well (power b.variant b.tx_boost p prep)
