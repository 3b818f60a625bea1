-- The starred figures are what the definitions compute: one test over the whole table, and what it says of each row.
use mathlib.Core.Path.{◌≡◌, refl, ap₂}
use mathlib.Core.Bool.{Bool, true, false, ◌&&◌}
use mathlib.Core.List.{List, [], ◌∷◌}
use lib.Dec.{T}
use lib.IntN.{ℤ}
use Rattle.sheets.specs.Frequency.{steps, read_back, lowest}
use Rattle.sheets.specs.Modem.{bandwidths, bandwidth_codes, optimize}
use Rattle.sheets.specs.Power.{clamped, pa_config, pa_dac, ocp}
use Rattle.sheets.specs.Signal.{offset, rssi}
use Rattle.sheets.proofs.Sweep.{both, sameℤ, sameℤ→eq}
use Rattle.refusals.specs.Refusals.{link_refusal}
use Rattle.bus.specs.Call.{admitted}
use Rattle.page.specs.Page.{fits, read}
use Rattle.page.specs.Links.{accepted}
use Rattle.page.specs.Lora.{is, shown}
use Rattle.figures.specs.Starred.{Row, starred, Right}

abbrev alike : List ℤ → List ℤ → Bool
alike [] [] = true
alike [] (y ∷ ys) = false
alike (x ∷ xs) [] = false
alike (x ∷ xs) (y ∷ ys) = sameℤ x y && alike xs ys

alike→eq : (xs ys : List ℤ) → T (alike xs ys) → xs ≡ ys
alike→eq [] [] t = refl
alike→eq [] (y ∷ ys) t = absurd t
alike→eq (x ∷ xs) [] t = absurd t
alike→eq (x ∷ xs) (y ∷ ys) t = let p = both (sameℤ x y) (alike xs ys) t in ap₂ ◌∷◌ (sameℤ→eq x y p.0) (alike→eq xs ys p.1)

abbrev holds : List Row → Bool
holds [] = true
holds (r ∷ rs) = alike r.computed r.bench && holds rs

right : (rs : List Row) → T (holds rs) → Right rs
right [] t = tt
right (r ∷ rs) t = let p = both (alike r.computed r.bench) (holds rs) t in (alike→eq r.computed r.bench p.0, right rs p.1)

pub starred_figures : Right starred
unfolding starred steps read_back lowest bandwidths bandwidth_codes optimize clamped pa_config pa_dac ocp offset rssi link_refusal admitted accepted fits read is shown
starred_figures = right starred tt
