-- What a modulation that is not refused has: numbers in the range of their fields.
-- Assumes nothing.
use Rattle.std.specs.Prelude.{Ok}
use mathlib.Core.Path.{◌≡◌, refl}
use mathlib.Core.Bool.{Bool, true, false, cond}
use Prim.Native.Nat.{ℕ, ◌≤◌}
use native.Mathlib.Omega.{arith}
use lib.Dec.{T, leb, leb→le}
use Rattle.sheets.specs.declared.Variant.{Variant}
use Rattle.sheets.specs.declared.Variant.TheVariants.{Sx1272}
use Rattle.sheets.specs.Modem.{bandwidth_codes, has_bandwidth}
use Rattle.sheets.proofs.Sweep.{at}
use Rattle.params.specs.declared.mod_params.ModulationParams.{ModulationParams}
use Rattle.params.specs.declared.mod_params.RadioError.TheVariants.{UnavailableBandwidth}
use Rattle.params.specs.Errors.{or}
use Rattle.refusals.specs.Refusals.{spreading_factor, bandwidth, coding_rate, flag, spreading_factor_value, bandwidth_value}
use Rattle.refusals.proofs.Clear.{passes, both_clear, named_clear}
use Rattle.operations.specs.Modem.{modulation_had, modulation_refusal}

pub record InRange (v : Variant) (p : ModulationParams) : Type 0 where
  pub sf : p.spreading_factor ≤ 12
  pub bw : p.bandwidth ≤ 9
  pub cr : p.coding_rate ≤ 4
  pub ldro : p.low_data_rate_optimize ≤ 1
  pub has : bandwidth_value v p.bandwidth ≡ (Ok tt)

pub in_range : (v : Variant) (p : ModulationParams) → modulation_refusal v p ≡ (Ok tt) → InRange v p
in_range v p c =
    let named = spreading_factor p.spreading_factor in
    let others = or (bandwidth p.bandwidth) (coding_rate p.coding_rate) in
    let had = modulation_had v p.spreading_factor p.bandwidth in
    let all = both_clear (or named others) (or (flag p.low_data_rate_optimize) had) c in
    let codes = both_clear named others all.0 in
    let two = both_clear (bandwidth p.bandwidth) (coding_rate p.coding_rate) codes.1 in
    let rest = both_clear (flag p.low_data_rate_optimize) had all.1 in
    record {
      sf = (named_clear 5 12 p.spreading_factor codes.0).1;
      bw = (named_clear 0 9 p.bandwidth two.0).1;
      cr = (named_clear 1 4 p.coding_rate two.1).1;
      ldro = (named_clear 0 1 p.low_data_rate_optimize rest.0).1;
      has = (both_clear (spreading_factor_value p.spreading_factor) (bandwidth_value v p.bandwidth) rest.1).1;
    }

true_by : (b : Bool) → T b → b ≡ true
true_by true t = refl
true_by false t = absurd t

-- the SX1272 has no bandwidth below 125 kHz
pub from_125 : (bw : ℕ) → bw ≤ 9 → bandwidth_value Sx1272 bw ≡ (Ok tt) → 7 ≤ bw
unfolding bandwidth_codes
from_125 bw h c =
    let has = true_by (has_bandwidth Sx1272 bw) (passes (has_bandwidth Sx1272 bw) UnavailableBandwidth c) in
    let least = leb→le 7 (cond (has_bandwidth Sx1272 bw) bw 7) (at (λ (k : ℕ). leb 7 (cond (has_bandwidth Sx1272 k) k 7)) 0 10 tt bw (omega arith) (omega arith)) in
    rw has at least
