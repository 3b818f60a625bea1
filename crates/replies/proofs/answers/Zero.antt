-- The number of an answer that is no refusal.
use mathlib.Core.Path.{◌≡◌, refl}
use mathlib.Core.List.{[], ◌∷◌}
use Rattle.text.specs.Numbers.{decimal}

pub zero : decimal 0 ≡ 48 ∷ []
unfolding decimal
zero = refl
