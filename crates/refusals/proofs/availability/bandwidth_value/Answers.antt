-- `refusals::availability::bandwidth_value` meets its contract: a number past the table has no code, and one in it has the table's.
use Rattle.std.proofs.Common.{◌≡◌, ℕ, ◌<◌, arith}
use Rattle.sheets.specs.declared.Variant.{Variant}
use Rattle.sheets.specs.declared.Variant.TheVariants.{Sx1272, Sx1276}
use Rattle.sheets.specs.Modem.{bandwidth_codes, bandwidth_code, no_code}
use Rattle.sheets.proofs.Lists.{get_or_past}
use Rattle.refusals.proofs.availability.bandwidth_value.Goals as goal

past_table : (v : Variant) (bw : ℕ) → 9 < bw → bandwidth_code v bw ≡ no_code
unfolding bandwidth_codes
past_table Sx1272 bw h = get_or_past (bandwidth_codes Sx1272) bw no_code (omega arith)
past_table Sx1276 bw h = get_or_past (bandwidth_codes Sx1276) bw no_code (omega arith)

pub returns-then-code-gt9 : goal.returns-then-code-gt9
returns-then-code-gt9 c = rw (past_table c.args.variant c.args.code (omega arith))
