-- The place is the first one and as many more as bytes are passed, and what is left to store gives the whole burst.
use Rattle.std.proofs.Common.{◌≡◌, ◌+◌, ◌%◌, length, drop}
use Rattle.bus.specs.Access.{laid}
use Rattle.bus.proofs.bursts.burst_write.Given as goal

abbrev pub invariant-loop-byte : goal.invariant-loop-byte
invariant-loop-byte l = record {
  size : length l.fifo ≡ length l.initial.fifo;
  place : l.to ≡ (l.initial.to + l.byte-index) % 256;
  left : laid (drop l.byte-index l.buf) l.to l.fifo ≡ laid l.buf l.initial.to l.initial.fifo;
}
