-- `text::hex::read_hex` meets its contract: the tests are the definition's, and `decode` stores what the text says.
use Rattle.std.proofs.Common.{◌≡◌, ◌/◌, length, sym, ◌∙◌, true}
use borrow.Author.Tests.{le-leb}
use Rattle.text.specs.Hex.{ten, hex_digits, bytes_read, bytes_left}
use Rattle.text.proofs.hex.read_hex.Goals as goal

pub returns : goal.returns
unfolding bytes_read bytes_left
returns c =
    let a = c.args in
    let y : hex_digits (ten a.case) a.s.now ≡ true = rw (← c.ten-a.ensures.0) (sym c.hex_digits.ensures ∙ c.if-not-hex_digits.false) in
    let r = le-leb (length a.s.now / 2) (length a.out.now) c.if-n-out.false in
    (rw (y, r), rw (y, r, ← c.ten-a.ensures.0) c.decode.ensures)
