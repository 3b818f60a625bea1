-- The bytes passed stand in the buffer, and what is left to read gives the whole burst.
use Rattle.std.proofs.Common.{◌≡◌, ◌+◌, ◌-◌, ◌%◌, ◌++◌, length, take}
use Rattle.bus.specs.Access.{taken}
use Rattle.bus.proofs.bursts.burst_read.Given as goal

abbrev pub invariant-loop-place : goal.invariant-loop-place
invariant-loop-place l = record {
  size : length l.place-items ≡ l.count;
  place : l.from ≡ (l.initial.from + l.place-index) % 256;
  left : take l.place-index l.place-items ++ taken l.from (l.count - l.place-index) l.fifo ≡ taken l.initial.from l.count l.fifo;
}
