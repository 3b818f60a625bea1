-- Acceptance is that the numbers are in their ranges.
-- Assumes nothing.
use mathlib.Core.Path.{◌≡◌, refl}
use mathlib.Core.Bool.{Bool, true, false}
use lib.Dec.{T}
use Rattle.sheets.specs.declared.Variant.{Variant}
use Rattle.params.specs.declared.mod_params.Link.{Link}
use Rattle.page.specs.Links.{accepted}
use Rattle.page.proofs.Acceptance.{Ranges, ranges, accepts}

is_true : (t : Bool) → T t → true ≡ t
is_true true h = refl
is_true false h = absurd h

is_false : (t : Bool) → ¬ T t → false ≡ t
is_false true h = absurd (h tt)
is_false false h = refl

pub refused : (v : Variant) (l : Link) → ¬ Ranges v l → false ≡ accepted v l
refused v l n = is_false (accepted v l) (λ t. n (ranges v l t))

pub granted : (v : Variant) (l : Link) → Ranges v l → true ≡ accepted v l
granted v l h = is_true (accepted v l) (accepts v l h)
