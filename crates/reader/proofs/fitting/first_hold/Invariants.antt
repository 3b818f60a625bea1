-- The registers before the loop's are kept.
use Rattle.std.proofs.Common.{ℕ, ◌<◌, T, true, get_or}
use Rattle.sheets.specs.Reader.{reader_order}
use Rattle.reader.specs.Tests.{keeps}
use Rattle.reader.proofs.fitting.first_hold.Given as goal

abbrev pub invariant-loop-i : goal.invariant-loop-i
invariant-loop-i l = (k : ℕ) → k < l.i → T (keeps l.link.board l.link.link (get_or (reader_order l.link.board.variant true) k 0) l.image)
