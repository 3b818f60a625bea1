-- What a second test makes of a test.
-- Assumes nothing.
use mathlib.Core.Path.{◌≡◌, refl}
use mathlib.Core.Bool.{Bool, true, false, ◌&&◌}

pub and_false : (t : Bool) → t && false ≡ false
and_false true = refl
and_false false = refl

pub and_true : (t : Bool) → t && true ≡ t
and_true true = refl
and_true false = refl
