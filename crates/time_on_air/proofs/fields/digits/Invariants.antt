-- What is left from a place on gives the whole: what is held there, and what is left behind the digits.
use Rattle.std.proofs.Common.{◌≡◌, drop}
use Rattle.time_on_air.specs.Fields.{taken, after}
use Rattle.time_on_air.proofs.fields.digits.Given as goal

abbrev pub invariant-loop-at : goal.invariant-loop-at
invariant-loop-at l =
    record {
      holds : taken l.held (drop l.at l.piece) ≡ taken l.fn.held (drop l.from l.piece);
      leaves : after l.held (drop l.at l.piece) ≡ after l.fn.held (drop l.from l.piece);
    }
