-- Laws of the modem's tables and flags.
-- Assumes nothing.
use mathlib.Core.Path.{◌≡◌}
use mathlib.Core.Bool.{Bool, true, false, cond}
use Prim.Native.Nat.{ℕ, ◌+◌, ◌*◌, ◌-◌, ◌%◌, ◌^◌, ◌≤◌, ◌<◌}
use native.Mathlib.Nat.{sub-add_cancel, mod-eq_of_lt}
use native.Mathlib.Omega.{arith}
use lib.Dec.{leb, leb→le}
use lib.Pow.{pow_mono}
use Rattle.sheets.specs.declared.Variant.TheVariants.{Sx1272, Sx1276}
use Rattle.sheets.specs.Modem.{bandwidths, bandwidth_codes, hertz, bandwidth_code, long_symbol, optimize}
use Rattle.sheets.specs.Rust.{the_rust's_optimize, six_pairs, listed}
use Rattle.sheets.proofs.Sweep.{at, equal, equal₂}

-- the flag is the Rust's, but for six pairs, where it is 1 and the Rust's is 0
pub six_pairs_differ : (sf bw : ℕ) → sf ≤ 12 → bw < 10 → optimize sf bw ≡ the_rust's_optimize sf bw + listed six_pairs sf bw
unfolding optimize the_rust's_optimize bandwidths
six_pairs_differ sf bw h k = equal₂ 13 10 optimize (λ f j. the_rust's_optimize f j + listed six_pairs f j) tt sf bw (omega arith) (omega arith)

flag_le : (c : Bool) → cond c 1 0 ≤ 1
flag_le true = omega arith
flag_le false = omega arith

pub optimize_le : (sf bw : ℕ) → optimize sf bw ≤ 1
unfolding optimize
optimize_le sf bw = flag_le (long_symbol sf (hertz bw))

pub hertz_le : (bw : ℕ) → bw < 10 → hertz bw ≤ 500000
unfolding bandwidths
hertz_le bw h = leb→le (hertz bw) 500000 (at (λ k. leb (hertz k) 500000) 0 10 tt bw (omega arith) (omega arith))

-- a symbol's chips, as a shift makes them, in a word that holds so many
pub chips_fit : (sf w : ℕ) → sf ≤ 12 → 4096 < w → 1 * 2 ^ sf % w ≡ 2 ^ sf
chips_fit sf w h k =
    let chips : 2 ^ sf ≤ 4096 = pow_mono {i = sf} {j = 12} h in
    let one : 1 * 2 ^ sf ≡ 2 ^ sf = omega arith in
    rw one (mod-eq_of_lt (omega arith))

-- spreading factor 12 where the flag is set, else 7, gives the flag again on the SX1272's bandwidths
pub optimize_again : (sf bw : ℕ) → sf ≤ 12 → 7 ≤ bw → bw ≤ 9 → optimize (7 + optimize sf bw * 5) bw ≡ optimize sf bw
unfolding optimize bandwidths
optimize_again sf bw h l m =
    rw (← (sub-add_cancel l)) (equal₂ 13 3 (λ f j. optimize (7 + optimize f (j + 7) * 5) (j + 7)) (λ f j. optimize f (j + 7)) tt sf (bw - 7) (omega arith) (omega arith))

pub code_76 : (bw : ℕ) → bw ≤ 9 → bandwidth_code Sx1276 bw ≡ bw
unfolding bandwidth_codes
code_76 bw h = equal 0 10 (bandwidth_code Sx1276) (λ k. k) tt bw (omega arith) (omega arith)

pub code_72 : (bw : ℕ) → 7 ≤ bw → bw ≤ 9 → bandwidth_code Sx1272 bw ≡ bw - 7
unfolding bandwidth_codes
code_72 bw l h = equal 7 3 (bandwidth_code Sx1272) (λ k. k - 7) tt bw l (omega arith)
