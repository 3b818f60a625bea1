-- A sum over bytes modulo 256, taken one after the other.
use mathlib.Core.Path.{◌≡◌}
use mathlib.Core.List.{List, [], ◌∷◌}
use Prim.Native.Nat.{ℕ, zero, suc, ◌+◌, ◌≤◌, ◌<◌, ◌%◌}
use native.Mathlib.Numerals.{add-one}
use native.Mathlib.Omega.{arith}
use lib.ListN.{length, take, get_or}
use lib.Seq.{take_all}
use Rattle.intel_hex.specs.Record.{total, sum_of}

total_more : (bs : List ℕ) (k : ℕ) → k < length bs → total (take (suc k) bs) ≡ total (take k bs) + get_or bs k 0
total_more [] k h = absurd (omega arith)
total_more (b ∷ bs) zero h = omega arith
total_more (b ∷ bs) (suc k) h = let i = total_more bs k (omega arith) in omega arith

-- one byte more is added
pub added : (bs : List ℕ) (k sum b : ℕ) → k < length bs → b ≡ get_or bs k 0 → sum ≡ total (take k bs) % 256 → (sum + b) % 256 ≡ total (take (k + 1) bs) % 256
added bs k sum b h e i = rw (add-one k) (let m = total_more bs k h in omega arith)

-- what makes the sum a multiple of 256
pub completes : (bs : List ℕ) (t r : ℕ) → t ≡ total bs % 256 → (r + t) % 256 ≡ 0 → r < 256 → r ≡ sum_of bs
unfolding sum_of
completes bs t r e z h = omega arith

pub completes_all : (bs : List ℕ) (k t r : ℕ) → length bs ≤ k → t ≡ total (take k bs) % 256 → (r + t) % 256 ≡ 0 → r < 256 → r ≡ sum_of bs
completes_all bs k t r l e z h = completes bs t r (rw (take_all k bs l) at e) z h
