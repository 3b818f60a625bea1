-- Reading what is left from this state is reading the whole.
use Rattle.std.proofs.Common.{◌≡◌, ◌≤◌, ◌++◌, take, drop}
use Rattle.dump.specs.declared.hex_text.State.TheVariants.{Between}
use Rattle.dump.specs.Dump.{text_read}
use Rattle.dump.specs.Text.{bytes_from, verdict_from}
use Rattle.dump.proofs.hex_text.read_text.Given as goal

abbrev pub invariant-loop-at : goal.invariant-loop-at
invariant-loop-at l = record {
  counted : l.reader.count ≤ l.at;
  verdict : verdict_from l.reader.state l.at l.reader.count (drop l.at l.s) ≡ text_read l.s;
  bytes : l.reader.count ≤ 128 → take l.reader.count l.reader.bytes ++ bytes_from l.reader.state l.at (drop l.at l.s) ≡ bytes_from Between 0 l.s;
}
