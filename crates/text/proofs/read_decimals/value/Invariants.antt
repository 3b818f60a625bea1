-- `text::read_decimals::value`: what is left, after the value read so far, gives the value of the whole.
use Rattle.std.proofs.Common.{◌≡◌, ◌≤◌, drop}
use Rattle.text.specs.Decimal.{value_from}
use Rattle.text.proofs.read_decimals.value.Given as goal

abbrev pub invariant-loop-b : goal.invariant-loop-b
invariant-loop-b l = (l.n ≤ l.most) × (value_from (drop l.b-index l.s) l.n ≡ value_from l.s 0)
