-- Line and column of what is left, counted from here, are those of the whole.
use Rattle.std.proofs.Common.{◌≡◌, ◌+◌, ◌≤◌, drop}
use Rattle.dump.specs.Spot.{line_from, column_from}
use Rattle.dump.proofs.faults.spot.spot_behind.Given as goal

abbrev pub invariant-loop-c : goal.invariant-loop-c
invariant-loop-c l =
    (l.line ≤ l.c-index + 1) × (l.column ≤ l.c-index + 1) × (line_from l.line (drop l.c-index l.s) ≡ line_from 1 l.s) × (column_from l.column (drop l.c-index l.s) ≡ column_from 1 l.s)
