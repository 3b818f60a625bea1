-- Whatever the pieces of a text, the answer at the end is the report on the whole text.
-- Assumes nothing.
use Rattle.std.specs.Prelude.{⊤, Result, Ok, Err}
use mathlib.Core.Path.{◌≡◌, refl, sym, ◌∙◌, ap}
use mathlib.Core.List.{List, [], ◌∷◌, ◌++◌}
use Prim.Native.Nat.{ℕ}
use Rattle.params.specs.declared.answers.BadLine.{BadLine}
use Rattle.time_on_air.specs.declared.reading.Reading.{Reading}
use Rattle.time_on_air.specs.Report.{Reported, verdict, totals}
use Rattle.time_on_air.specs.Onward.{outcome_of, Ends, comes_to, Begins, Continues}

abbrev pub joined : List (List ℕ) → List ℕ
joined [] = []
joined (p ∷ ps) = p ++ joined ps

-- a reading is fed one piece after the other, and this one comes out
abbrev pub Fed : Reading → List (List ℕ) → Reading → Type 0
Fed r [] s = r ≡ s
Fed r (p ∷ ps) s = (m : Reading) × Continues r p m × Fed m ps s

fed : (ps : List (List ℕ)) (r s : Reading) → Fed r ps s → comes_to s [] ≡ comes_to r (joined ps)
fed [] r s h = ap (λ (x : Reading). comes_to x []) (sym h)
fed (p ∷ ps) r s h = fed ps h.0 s h.2 ∙ h.1 (joined ps)

told : (text before : List ℕ) (v : Result ⊤ BadLine) (a : Result ⊤ BadLine) (after : List ℕ) → v ≡ verdict text
    → Ends (outcome_of v (totals text)) before a after → Reported text before a after
told text before (Ok tt) a after e h =
    record { answers = h.answers ∙ e; totalled = rw (sym e) h.totalled }
told text before (Err b) a after e h =
    record { answers = h.answers ∙ e; totalled = rw (sym e) h.totalled }

pub whatever_the_pieces : (ps : List (List ℕ)) (r s : Reading) (before : List ℕ) (a : Result ⊤ BadLine) (after : List ℕ)
    → Begins r → Fed r ps s → Ends (comes_to s []) before a after → Reported (joined ps) before a after
whatever_the_pieces ps r s before a after b h e =
    told (joined ps) before (verdict (joined ps)) a after refl (rw (fed ps r s h ∙ b (joined ps)) at e)
