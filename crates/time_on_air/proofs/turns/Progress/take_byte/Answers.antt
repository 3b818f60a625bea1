-- `time_on_air::turns::Progress::take_byte` meets its contract: each arm is a case of what a byte ends (`ending`).
use Rattle.std.proofs.Common.{◌≡◌, sym, ◌∙◌, add-one}
use Rattle.text.specs.Fields.{parts}
use Rattle.time_on_air.specs.declared.fields.Ended.TheVariants.{Field, Line, Wrong, WrongLine}
use Rattle.time_on_air.specs.Lines.{lf}
use Rattle.time_on_air.specs.Fields.{ended_by}
use Rattle.time_on_air.proofs.Onward.{ending}
use Rattle.time_on_air.proofs.turns.Progress.take_byte.Goals as goal

pub returns-in-Field : goal.returns-in-Field
returns-in-Field c =
    let p = c.args.self.now in
    let x : ended_by p.skipping p.field p.held c.args.b ≡ Field = sym c.ending.ensures.0 ∙ c.in-Field.is in
    λ t. rw (add-one p.field) (rw x at (sym (ending p.lines p.sums p.skipping p.numbers p.field p.held c.args.b t c.requires)))

pub returns-in-Line : goal.returns-in-Line
returns-in-Line c =
    let p = c.args.self.now in
    let x : ended_by p.skipping p.field p.held c.args.b ≡ Line = sym c.ending.ensures.0 ∙ c.in-Line.is in
    λ t. c.line_ends.ensures (parts lf t) ∙ rw x at (sym (ending p.lines p.sums p.skipping p.numbers p.field p.held c.args.b t c.requires))

pub returns-in-Wrong : goal.returns-in-Wrong
returns-in-Wrong c =
    let p = c.args.self.now in
    let x : ended_by p.skipping p.field p.held c.args.b ≡ Wrong c.in-Wrong.k = sym c.ending.ensures.0 ∙ c.in-Wrong.is in
    λ t. rw x at (sym (ending p.lines p.sums p.skipping p.numbers p.field p.held c.args.b t c.requires))

pub returns-in-WrongLine : goal.returns-in-WrongLine
returns-in-WrongLine c =
    let p = c.args.self.now in
    let x : ended_by p.skipping p.field p.held c.args.b ≡ WrongLine c.in-WrongLine.k = sym c.ending.ensures.0 ∙ c.in-WrongLine.is in
    λ t. rw x at (sym (ending p.lines p.sums p.skipping p.numbers p.field p.held c.args.b t c.requires))
