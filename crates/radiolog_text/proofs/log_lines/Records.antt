-- The records of a log, three bytes each.
use mathlib.Core.Path.{◌≡◌, refl, ap}
use mathlib.Core.List.{List, [], ◌∷◌, ◌++◌}
use Prim.Native.Nat.{ℕ, zero, suc, ◌/◌}
use native.Mathlib.Omega.{arith}
use lib.ListN.{length, get_or}
use Rattle.std.specs.Simd.{first_chunks}
use Rattle.radiolog_text.specs.LogLines.{record_text, records_text}

abbrev pub record_in : List ℕ → List ℕ
record_in r = record_text (get_or r 0 0) (get_or r 1 0) (get_or r 2 0)

abbrev pub records_in : List (List ℕ) → List ℕ
records_in [] = []
records_in (r ∷ rs) = record_in r ++ records_in rs

-- as many as the log holds whole
pub whole : (n : ℕ) (log : List ℕ) → n ≡ length log / 3 → records_in (first_chunks 3 n log) ≡ records_text log
whole zero [] e = refl
whole zero (a ∷ []) e = refl
whole zero (a ∷ b ∷ []) e = refl
whole zero (a ∷ b ∷ d ∷ log) e = absurd (omega arith)
whole (suc n) [] e = absurd (omega arith)
whole (suc n) (a ∷ []) e = absurd (omega arith)
whole (suc n) (a ∷ b ∷ []) e = absurd (omega arith)
whole (suc n) (a ∷ b ∷ d ∷ log) e = ap (λ (l : List ℕ). record_text a b d ++ l) (whole n log (omega arith))
