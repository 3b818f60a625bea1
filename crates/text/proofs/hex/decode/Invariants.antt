-- The bytes stored and those of what is left make up the whole.
use Rattle.std.proofs.Common.{◌≡◌, ◌++◌, length, take, drop, ◌*◌}
use Rattle.text.specs.Hex.{bytes_of}
use Rattle.text.proofs.hex.decode.Given as goal

abbrev pub invariant-loop-i : goal.invariant-loop-i
invariant-loop-i l =
    (length l.out ≡ length l.fn.out) × (take l.i l.out ++ bytes_of l.a (drop (2 * l.i) l.s) ≡ bytes_of l.a l.s) × (drop l.i l.out ≡ drop l.i l.fn.out)
