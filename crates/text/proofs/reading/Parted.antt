-- How fields follow one another: what `field` and others cite.
use mathlib.Core.Path.{◌≡◌}
use mathlib.Core.List.{List}
use Prim.Native.Nat.{ℕ, zero, suc, ◌+◌, ◌-◌, ◌≤◌, ◌<◌}
use native.Mathlib.Omega.{arith}
use lib.ListN.{length, drop, length-take, length-drop}
use Rattle.text.specs.Bytes.{index_of}
use Rattle.text.specs.Fields.{field_at}

-- field k is field k - 1 of what stands behind the first separator
pub next : (sep k i : ℕ) (s : List ℕ) → i < k → field_at sep (k - i) s ≡ field_at sep (k - (i + 1)) (drop (suc (index_of sep s)) s)
next sep k i s h = let e : k - i ≡ suc (k - (i + 1)) = omega arith in rw e

-- a field is no longer than the text that it stands in
pub within : (sep k : ℕ) (s : List ℕ) → length (field_at sep k s) ≤ length s
within sep zero s = rw length-take (omega arith)
within sep (suc k) s = omega (arith, within sep k (drop (suc (index_of sep s)) s), length-drop (suc (index_of sep s)) s)
