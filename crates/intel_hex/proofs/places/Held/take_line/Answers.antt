-- `intel_hex::places::Held::take_line` meets its contract: a record with which nothing is wrong is taken.
use Rattle.std.proofs.Common.{sym, ◌∙◌}
use Rattle.std.proofs.lemmas.Result.{err_from_is_err_and}
use Rattle.intel_hex.proofs.Form.{refused, end_taken, data_taken, places_fine}
use Rattle.intel_hex.proofs.places.Held.take_line.Goals as goal

pub put_record-requires : goal.put_record-requires
put_record-requires c =
    places_fine c.args.self.now.places c.args.last c.in_ok-record.record (sym c.fault.ensures ∙ c.in_ok-fault.was) (sym c.is_end.ensures ∙ c.if-is_end.false)

pub returns-in_err-fault : goal.returns-in_err-fault
returns-in_err-fault c =
    let says = sym c.in_ok-record.was ∙ c.read.ensures in
    let e = sym c.fault.ensures ∙ c.in_err-fault.was in
    let p = err_from_is_err_and c.from_residual-in_err-fault.result c.from_residual-in_err-fault.ensures.1 in
    rw (p.1, p.2) (refused c.args.line.now c.args.last c.args.self.now.places c.in_ok-record.record says _ _ e)

pub returns-then-is_end : goal.returns-then-is_end
returns-then-is_end c =
    let says = sym c.in_ok-record.was ∙ c.read.ensures in
    let e = sym c.fault.ensures ∙ c.in_ok-fault.was in
    end_taken c.args.line.now c.args.last c.args.self.now.places c.in_ok-record.record says e (sym c.is_end.ensures ∙ c.if-is_end.true)

pub returns : goal.returns
returns c =
    let says = sym c.in_ok-record.was ∙ c.read.ensures in
    let e = sym c.fault.ensures ∙ c.in_ok-fault.was in
    data_taken c.args.line.now c.args.last c.args.self.now.places c.in_ok-record.record says _ e (sym c.is_end.ensures ∙ c.if-is_end.false) c.put_record.ensures
