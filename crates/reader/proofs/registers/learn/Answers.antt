-- `reader::registers::learn` meets its contract: the place of each register is found by its address.
use Rattle.std.proofs.Common.{ℕ, sym, ap, ◌∙◌}
use Rattle.params.specs.declared.mod_params.Link.{Link}
use Rattle.page.specs.Page.{Place, improved, find}
use Rattle.page.specs.Lora.{places_of}
use Rattle.page.proofs.Registers.{at_1d}
use Rattle.reader.proofs.registers.Places.{told_1d}
use Rattle.reader.proofs.registers.learn.Goals as goal

pub returns-in-29 : goal.returns-in-29
returns-in-29 c =
    let a = c.args in
    let found = ap (λ (r : ℕ). find r (places_of a.board)) c.in-29.is ∙ at_1d a.board in
    c.config_1.ensures ∙ sym (ap (λ (p : Place Link). improved p a.value a.guess) found ∙ told_1d a.board.variant a.value a.guess)
