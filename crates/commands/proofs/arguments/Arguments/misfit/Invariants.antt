-- `commands::arguments::Arguments::misfit`: the first misfit of what is left is that of the whole.
use Rattle.std.proofs.Common.{◌≡◌, ◌≤◌, length, drop}
use Rattle.commands.specs.Arguments.{misfit_from}
use Rattle.commands.proofs.arguments.Arguments.misfit.Given as goal

abbrev pub invariant-loop-i : goal.invariant-loop-i
invariant-loop-i l =
    (l.i ≤ length l.kinds)
    × (misfit_from l.self.parting l.first l.self.text.now l.i (drop l.i l.kinds) ≡ misfit_from l.self.parting l.first l.self.text.now 0 l.kinds)
