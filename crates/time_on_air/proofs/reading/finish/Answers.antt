-- `time_on_air::reading::finish` meets its contract: nothing follows, so that a line which has begun has no end.
use Rattle.std.proofs.Common.{refl, sym, ◌∙◌}
use Rattle.std.proofs.lemmas.Result.{err_from_is_err_and}
use Rattle.params.specs.declared.line_faults.LineFault.TheVariants.{Open}
use Rattle.time_on_air.specs.Onward.{comes_to}
use Rattle.time_on_air.proofs.reading.Begun.{bad_leaves}
use Rattle.time_on_air.proofs.reading.finish.Goals as goal

pub returns-in_err-progress : goal.returns-in_err-progress
unfolding comes_to
returns-in_err-progress c =
    let p = err_from_is_err_and c.from_residual.result c.from_residual.ensures.1 in
    rw (c.in_err-progress.was, p.1, p.2) (record { answers = refl; totalled = refl })

pub returns-then-has_begun : goal.returns-then-has_begun
unfolding comes_to
returns-then-has_begun c =
    rw (c.in_ok-progress.was, sym c.has_begun.ensures ∙ c.if-has_begun.true)
    (record { answers = c.bad_line.ensures; totalled = sym (bad_leaves Open c.in_ok-progress.progress.lines _) })

pub returns : goal.returns
unfolding comes_to
returns c =
    rw (c.in_ok-progress.was, sym c.has_begun.ensures ∙ c.if-has_begun.false)
    (record { answers = refl; totalled = c.totals_of.ensures })
