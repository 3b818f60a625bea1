-- The bytes that digits say, one by one.
use mathlib.Core.Path.{◌≡◌, refl}
use mathlib.Core.List.{List, [], ◌∷◌}
use Prim.Native.Nat.{ℕ, zero, suc, ◌+◌, ◌*◌, ◌/◌, ◌<◌}
use native.Mathlib.Omega.{arith}
use lib.ListN.{length, get_or}
use Rattle.text.specs.Hex.{worth}
use Rattle.intel_hex.specs.Record.{said}

pub length_said : (ds : List ℕ) → length (said ds) ≡ length ds / 2
length_said [] = refl
length_said (h ∷ []) = refl
length_said (h ∷ l ∷ ds) = let i = length_said ds in omega arith

pub said_at : (ds : List ℕ) (k : ℕ) → 2 * k + 1 < length ds → get_or (said ds) k 0 ≡ worth (get_or ds (2 * k) 0) * 16 + worth (get_or ds (2 * k + 1) 0)
said_at [] k p = absurd (omega arith)
said_at (h ∷ []) k p = absurd (omega arith)
said_at (h ∷ l ∷ ds) zero p = refl
said_at (h ∷ l ∷ ds) (suc k) p =
    let e : 2 * suc k ≡ suc (suc (2 * k)) = omega arith in
    let f : suc (suc (2 * k)) + 1 ≡ suc (suc (2 * k + 1)) = omega arith in
    rw (e, f) (said_at ds k (omega arith))
