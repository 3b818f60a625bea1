-- What is told and an outcome allow one result only.
-- Assumes nothing.
use mathlib.Core.Path.{◌≡◌, sym, ◌∙◌}
use mathlib.Core.List.{List}
use Prim.Native.Nat.{ℕ}
use lib.IntN.{ℤ}
use Rattle.params.specs.Errors.{Told}
use Rattle.bus.specs.Call.{Outcome}
use Rattle.results.specs.Results.{Tells}
use Rattle.results.specs.Exports.{Exported}

module _ {t : Told} {used : ℕ} {before : List ℕ} {r r' : ℤ} {results results' : List ℕ} where
  -- two that tell one answer are one, every place of the results lent: the calls that are lent no log promise this alone
  pub only_told : Tells t used before r results → Tells t used before r' results' → (r ≡ r') × (results ≡ results')
  only_told p q = (p.numbers ∙ sym q.numbers, p.lists ∙ sym q.lists)

module _ {o : Outcome} {before : List ℕ} {r r' : ℤ} {im im' fifo fifo' log log' buffer buffer' results results' : List ℕ} where
  -- two results that one outcome allows are one
  pub only : Exported o before r im fifo log buffer results → Exported o before r' im' fifo' log' buffer' results'
      → (r ≡ r') × (im ≡ im') × (fifo ≡ fifo') × (log ≡ log') × (buffer ≡ buffer') × (results ≡ results')
  only p q =
      let e = only_told p.tells q.tells in
      (e.0, p.leaves ∙ sym q.leaves, p.holds ∙ sym q.holds, p.logs ∙ sym q.logs, p.fills ∙ sym q.fills, e.1)
