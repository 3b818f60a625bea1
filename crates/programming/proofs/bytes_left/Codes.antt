-- The codes of bandwidths that a variant has.
-- Assumes nothing.
use Prim.Native.Nat.{ℕ, ◌≤◌}
use native.Mathlib.Omega.{arith}
use Rattle.sheets.specs.declared.Variant.{Variant}
use Rattle.sheets.specs.declared.Variant.TheVariants.{Sx1272, Sx1276}
use Rattle.sheets.specs.Modem.{bandwidth_code}
use Rattle.sheets.proofs.Modem.{code_72, code_76}
use Rattle.page.proofs.Acceptance.{narrowest}
use Rattle.programming.specs.Registers.{most_code}

pub code_le : (v : Variant) (bw : ℕ) → narrowest v ≤ bw → bw ≤ 9 → bandwidth_code v bw ≤ most_code v
code_le Sx1272 bw l h = omega (arith, code_72 bw l h)
code_le Sx1276 bw l h = omega (arith, code_76 bw h)
