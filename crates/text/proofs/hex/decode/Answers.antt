-- `text::hex::decode` meets its contract: the bytes stored and those of what is left make up the whole.
use Rattle.std.proofs.Common.{◌≡◌, ◌*◌, ◌/◌, length, drop, length-drop, arith}
use Rattle.text.specs.Hex.{bytes_of}
use Rattle.text.proofs.hex.Pairs.{none_left, whole}
use Rattle.text.proofs.hex.decode.Goals as goal

pub returns : goal.returns
returns c =
    let l = c.loop-i in
    let a = c.args in
    let n : length a.s.now / 2 ≡ l.i = omega arith in
    let e = rw (none_left a.a (drop (2 * l.i) a.s.now) (rw length-drop (omega arith))) at l.invariant.1 in
    rw n (whole l.out a.out.now (bytes_of a.a a.s.now) l.i e l.invariant.2)
