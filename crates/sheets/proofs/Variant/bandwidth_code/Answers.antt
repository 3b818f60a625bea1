-- `sheets::Variant::bandwidth_code` meets its contract: each variant's table is the definition's list, at every number below ten.
use Rattle.std.proofs.Common.{◌≡◌, ℕ, ◌<◌, get_or, arith}
use Rattle.sheets.specs.Modem.{bandwidth_codes, bandwidth_code}
use Rattle.sheets.specs.declared.Variant.{Variant}
use Rattle.sheets.specs.declared.Variant.TheVariants.{Sx1272, Sx1276}
use Rattle.sheets.proofs.Sweep.{equal}
use Rattle.sheets.proofs.Variant.bandwidth_code.Goals as goal

-- within a list's length it does not matter what stands past its end
in_table : (v : Variant) (bw : ℕ) → bw < 10 → get_or (bandwidth_codes v) bw 0 ≡ bandwidth_code v bw
unfolding bandwidth_codes
in_table Sx1272 bw h = equal 0 10 (λ k. get_or (bandwidth_codes Sx1272) k 0) (bandwidth_code Sx1272) tt bw (omega arith) (omega arith)
in_table Sx1276 bw h = equal 0 10 (λ k. get_or (bandwidth_codes Sx1276) k 0) (bandwidth_code Sx1276) tt bw (omega arith) (omega arith)

pub returns-in-Sx1272 : goal.returns-in-Sx1272
unfolding bandwidth_codes
returns-in-Sx1272 c = rw c.in-Sx1272.is (in_table Sx1272 c.args.bw c.requires)

pub returns-in-Sx1276 : goal.returns-in-Sx1276
unfolding bandwidth_codes
returns-in-Sx1276 c = rw c.in-Sx1276.is (in_table Sx1276 c.args.bw c.requires)
