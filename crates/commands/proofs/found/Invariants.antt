-- `commands::found`: what the names from here on name is what the whole list names.
use Rattle.std.proofs.Common.{◌≡◌, ◌≤◌, length, drop}
use Rattle.commands.specs.Operations.{found_among}
use Rattle.commands.proofs.found.Given as goal

abbrev pub invariant-loop-word : goal.invariant-loop-word
invariant-loop-word l = (l.word-index ≤ length l.names) × (found_among l.w (drop l.word-index l.names) ≡ found_among l.w l.names)
