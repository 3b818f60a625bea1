-- `radiolog_text::command_words::command_named` meets its contract: each word stands beside its operation, and a name is looked for after them.
use Rattle.std.proofs.Common.{◌≡◌, List, ℕ, false, ap, ◌∙◌, sym}
use Rattle.std.specs.Prelude.{Option}
use Rattle.commands.specs.declared.Operation.{Operation}
use Rattle.commands.specs.Operations.{operations, among, operation_of}
use Rattle.radiolog_text.specs.CommandWords.{word, takes_text, otherwise, command_of}
use Rattle.radiolog_text.proofs.command_words.command_named.Goals as goal

told : (w : List ℕ) (n : Option Operation) → takes_text w ≡ false → n ≡ among word w operations → otherwise n (operation_of w) ≡ command_of w
unfolding command_of
told w n t e = rw t (ap (λ m. otherwise m (operation_of w)) e)

pub returns-in-Some : goal.returns-in-Some
unfolding operations
returns-in-Some c = told c.args.w.now _ (sym c.takes_text.ensures ∙ c.if-takes_text.false) c.in-Some.ensures

pub returns-in-None : goal.returns-in-None
unfolding operations
returns-in-None c = c.operation_named.ensures ∙ told c.args.w.now _ (sym c.takes_text.ensures ∙ c.if-takes_text.false) c.in-None.ensures
