-- What an exported call comes to.
use Rattle.std.specs.Prelude.{◌≡◌, List, ℕ, ℤ}
use Rattle.bus.specs.Call.{Outcome}
use Rattle.results.specs.Results.{Tells}

-- What an exported call leaves is an outcome, told.
pub record Exported (o : Outcome) (before : List ℕ) (number : ℤ) (im fifo log buffer results : List ℕ) : Type 0 where
  pub tells : Tells o.tells o.used before number results
  pub leaves : im ≡ o.image
  pub holds : fifo ≡ o.fifo
  pub logs : log ≡ o.log
  pub fills : buffer ≡ o.buffer
