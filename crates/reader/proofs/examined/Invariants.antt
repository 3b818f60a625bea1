-- The guess is from the registers before the loop's, and the values of these fit an accepted link.
use Rattle.std.proofs.Common.{◌≡◌, ℕ, ◌+◌, ◌<◌}
use Rattle.page.specs.Page.{guess, first}
use Rattle.page.specs.Lora.{page}
use Rattle.reader.specs.Look.{Fit}
use Rattle.reader.proofs.examined.Given as goal

abbrev pub invariant-loop-i : goal.invariant-loop-i
invariant-loop-i l = record {
  so_far : l.guess ≡ guess (first (page l.board) l.i) l.image;
  fit : (k : ℕ) → k < l.i + 1 → Fit l.board l.image k;
}
