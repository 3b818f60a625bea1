-- `time_on_air::reading::read_fields` meets its contract: each turn takes the digits and the byte behind them.
use Rattle.std.proofs.Common.{◌∙◌, ℕ, ◌+◌, ◌<◌, List, ◌++◌, length, drop, arith}
use Rattle.time_on_air.specs.Onward.{goes_to}
use Rattle.time_on_air.proofs.reading.Begun.{bad_stays}
use Rattle.time_on_air.proofs.reading.Turn.{piece_ends, byte_left}
use Rattle.time_on_air.proofs.reading.read_fields.Goals as goal

pub returns-in-Err : goal.returns-in-Err
returns-in-Err c =
    let i = c.loop-at in
    let p = c.args.piece.now in
    let b = i.progress in
    let s = c.digits-run.result in
    let inside : s.at < length p = omega (arith, c.digits-run.ensures.within, c.if-run-piece.false) in
    λ t. bad_stays c.in-Err.fault b.lines c.bad_line.result t c.bad_line.ensures
    ∙ rw c.in-Err.is at (c.take_byte.ensures (drop (s.at + 1) p ++ t))
    ∙ byte_left p b.lines b.sums b.skipping b.numbers b.field b.held i.at (λ (t : List ℕ). goes_to c.args.before (p ++ t)) i.invariant.left s.at s.held c.digits-run.ensures inside t

pub loop-at-preserved : goal.loop-at-preserved
loop-at-preserved c =
    let i = c.loop-at in
    let p = c.args.piece.now in
    let b = i.progress in
    let s = c.digits-run.result in
    let inside : s.at < length p = omega (arith, c.digits-run.ensures.within, c.if-run-piece.false) in
    record {
      within = omega arith;
      left = λ t. rw c.in_default.is at (c.take_byte.ensures (drop (s.at + 1) p ++ t)) ∙ byte_left p b.lines b.sums b.skipping b.numbers b.field b.held i.at (λ (t : List ℕ). goes_to c.args.before (p ++ t)) i.invariant.left s.at s.held c.digits-run.ensures inside t;
    }

pub returns-then-run-piece : goal.returns-then-run-piece
returns-then-run-piece c =
    let i = c.loop-at in
    let p = c.args.piece.now in
    let b = i.progress in
    let s = c.digits-run.result in
    λ t. piece_ends p b.lines b.sums b.skipping b.numbers b.field b.held i.at (λ (t : List ℕ). goes_to c.args.before (p ++ t)) i.invariant.left s.at s.held c.digits-run.ensures (omega arith) t
