-- `text::printing::Text::put_hex` meets its contract: the two digits of one byte more.
use Rattle.std.proofs.Common.{◌∷◌, [], ◌/◌, ◌%◌, refl, arith}
use Rattle.text.proofs.printing.Appending.{one_more}
use Rattle.text.specs.Numbers.{hex_digit, hex_from}
use Rattle.text.proofs.printing.Text.put_hex.Goals as goal

pub loop-b-preserved : goal.loop-b-preserved
loop-b-preserved c =
    let a = c.ten-a.result in
    record {
      put =
          one_more (hex_from a) (λ b. hex_digit a (b / 16) ∷ hex_digit a (b % 16) ∷ []) refl (λ x xs. refl) c.args.s.now c.loop-b.b-index 0 c.loop-b-test.true
          c.loop-b.invariant.put
          (rw (c.hex_digit.ensures, c.hex_digit-in-loop-b.ensures) at c.put.ensures);
      two_each = omega arith;
    }
