-- `signal::scaling::scaled` meets its contract: what the truncation asks of the quotient, and what it gives, is computed at each byte.
use Rattle.std.proofs.Common.{◌≡◌, ℕ, ◌*◌, ◌/◌, ◌<◌, true, false, T, pos, ap, ◌∙◌, arith, w16}
use Rattle.std.proofs.lemmas.Int.{to_z_pos}
use lib.Ieee.{Float, fin, binary32, of_int, of_bits, mul, div, lt, to_unsigned}
use Rattle.sheets.proofs.Sweep.{at, equal}
use Rattle.signal.proofs.scaling.scaled.Goals as goal

-- p * 16.0 / 15.0, as the code has it, with each constant by its bit pattern
abbrev x : ℕ → Float
x p = div binary32 (mul binary32 (of_int binary32 (pos p)) (of_bits binary32 0x4180_0000)) (of_bits binary32 0x4170_0000)

above : (p : ℕ) → p < 256 → T (lt (fin true 1 (pos 0)) (x p))
unfolding div mul of_int of_bits lt
above p h = at (λ k. lt (fin true 1 (pos 0)) (x k)) 0 256 tt p (omega arith) (omega arith)

under : (p : ℕ) → p < 256 → T (lt (x p) (fin false 1 (pos 64)))
unfolding div mul of_int of_bits lt
under p h = at (λ k. lt (x k) (fin false 1 (pos 64))) 0 256 tt p (omega arith) (omega arith)

whole : (p : ℕ) → p < 256 → to_unsigned 64 (x p) ≡ 16 * p / 15
unfolding div mul of_int of_bits to_unsigned
whole p h = equal 0 256 (λ k. to_unsigned 64 (x k)) (λ k. 16 * k / 15) tt p (omega arith) (omega arith)

pub truncating_f32_to_u64-requires-clause-lower_bound :
    goal.truncating_f32_to_u64-requires-clause-lower_bound
truncating_f32_to_u64-requires-clause-lower_bound c = above c.args.p (omega arith)

pub truncating_f32_to_u64-requires-clause-upper_bound :
    goal.truncating_f32_to_u64-requires-clause-upper_bound
truncating_f32_to_u64-requires-clause-upper_bound c = under c.args.p (omega arith)

pub overflow_cast-result : goal.overflow_cast-result
overflow_cast-result c =
    let e : c.truncating_f32_to_u64.result ≡ 16 * c.args.p / 15 = c.truncating_f32_to_u64.ensures ∙ whole c.args.p (omega arith) in
    record { sfits = omega arith }

pub returns : goal.returns
returns c =
    let e : c.truncating_f32_to_u64.result ≡ 16 * c.args.p / 15 = c.truncating_f32_to_u64.ensures ∙ whole c.args.p (omega arith) in
    to_z_pos w16 c.truncating_f32_to_u64.result (omega arith) ∙ ap pos e
