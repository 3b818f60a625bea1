-- One result: two answers that the contract of `read_link` allows are equal. That of `program` is one of sx127x/proofs/One.antt.
-- Assumes nothing.
use Rattle.std.specs.Prelude.{Result}
use mathlib.Core.Path.{◌≡◌, sym, ◌∙◌}
use mathlib.Core.List.{List}
use Prim.Native.Nat.{ℕ}
use Rattle.params.specs.declared.mod_params.Link.{Link}
use Rattle.params.specs.declared.mod_params.RadioError.{RadioError}
use Rattle.params.specs.declared.board.Board.{Board}
use Rattle.params.specs.Answers.{tells_link}
use Rattle.params.proofs.Determined.{link_determined}
use Rattle.page.specs.Reading.{read_link}

pub one_link : (b : Board) (im : List ℕ) (a a' : Result Link RadioError) → tells_link a ≡ read_link b im → tells_link a' ≡ read_link b im → a ≡ a'
one_link b im a a' p q = link_determined a a' (p ∙ sym q)
