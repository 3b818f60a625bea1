-- The digits that are left to spell, and those that stand already, say the number.
use Rattle.std.proofs.Common.{◌≡◌, ◌<◌, ◌+◌, ◌^◌, length}
use Rattle.text.specs.Numbers.{decimal}
use Rattle.text.proofs.put_decimals.Digits.{spelling}
use Rattle.text.proofs.put_decimals.spell.Given as goal

abbrev pub invariant-loop-rest : goal.invariant-loop-rest
invariant-loop-rest l =
    (l.from < 20) × (length l.place ≡ 20) × (l.rest < 10 ^ (l.from + 1)) × (spelling (l.from + 1) l.rest l.place ≡ decimal l.n)

abbrev pub decreases-loop-rest : goal.decreases-loop-rest
decreases-loop-rest l = l.from
