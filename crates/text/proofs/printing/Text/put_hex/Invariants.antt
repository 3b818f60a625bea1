-- The digits of the bytes so far stand there, two each.
use Rattle.std.proofs.Common.{◌≡◌, ◌+◌, ◌*◌, take}
use Rattle.text.specs.Text.{Put}
use Rattle.text.specs.Numbers.{hex_from}
use Rattle.text.proofs.printing.Text.put_hex.Given as goal

abbrev pub invariant-loop-b : goal.invariant-loop-b
invariant-loop-b l = record {
  put : Put (hex_from l.a (take l.b-index l.s)) l.initial.self l.self;
  two_each : l.self.end ≡ l.initial.self.end + 2 * l.b-index;
}
