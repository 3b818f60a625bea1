-- A byte with which a number goes on is a digit.
-- Assumes nothing.
use mathlib.Core.Path.{◌≡◌, refl}
use mathlib.Core.Bool.{Bool, true, false, ◌&&◌, not}
use Prim.Native.Nat.{ℕ, ◌≤◌}
use borrow.Author.Tests.{leb-true}
use lib.Dec.{eqb, leb}
use Rattle.text.specs.Decimal.{is_digit}
use Rattle.time_on_air.specs.Onward.{goes_on}

pub both : (x y : Bool) → x && y ≡ true → (x ≡ true) × (y ≡ true)
both true y h = (refl, h)
both false y h = (h, cc)

pub digit_from : (held b : ℕ) → goes_on held b ≡ true → 48 ≤ b
digit_from held b h = leb-true 48 b (both (leb 48 b) (leb b 57) (both (not (eqb held 1)) (is_digit b) h).1).0
