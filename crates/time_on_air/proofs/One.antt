-- A contract of a report allows one result: the answer and the totals that are left.
-- Assumes nothing.
use Rattle.std.specs.Prelude.{⊤, Result}
use mathlib.Core.Path.{◌≡◌, sym, ◌∙◌}
use mathlib.Core.List.{List}
use Prim.Native.Nat.{ℕ}
use Rattle.params.specs.declared.answers.BadLine.{BadLine}
use Rattle.time_on_air.specs.Report.{Reported}
use Rattle.time_on_air.specs.Onward.{Outcome, Ends}

pub one_report : (text before : List ℕ) (a b : Result ⊤ BadLine) (x y : List ℕ) → Reported text before a x → Reported text before b y → (a ≡ b) × (x ≡ y)
one_report text before a b x y r s = (r.answers ∙ sym s.answers, r.totalled ∙ sym s.totalled)

pub one_end : (o : Outcome) (before : List ℕ) (a b : Result ⊤ BadLine) (x y : List ℕ) → Ends o before a x → Ends o before b y → (a ≡ b) × (x ≡ y)
one_end o before a b x y r s = (r.answers ∙ sym s.answers, r.totalled ∙ sym s.totalled)
