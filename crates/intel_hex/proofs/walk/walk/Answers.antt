-- `intel_hex::walk::walk` meets its contract: what is left behind the records that are held gives the whole.
use Rattle.std.proofs.Common.{◌≡◌, ◌+◌, ◌-◌, length, take, drop, length-drop, refl, ◌∙◌, arith}
use lib.Seq.{take_all}
use Rattle.intel_hex.proofs.Walked.{begun, not_ended, bad, goes_on, ends}
use Rattle.intel_hex.proofs.walk.walk.Goals as goal

pub loop-rest-init : goal.loop-rest-init
loop-rest-init c = record { slow = omega arith; reached = begun c.args.text.now c.args.held.now.places c.requires }

pub returns-in_default : goal.returns-in_default
returns-in_default c =
    let l = c.loop-rest in
    rw (not_ended c.args.text.now l.rest.now l.line l.held.places l.invariant.reached (omega arith) (rw c.in_default.is at c.find.ensures)) (refl, tt)

pub returns-in-Err : goal.returns-in-Err
returns-in-Err c =
    let l = c.loop-rest in
    let found = c.in-Some.ensures in
    rw (bad c.args.text.now l.rest.now l.line l.held.places l.invariant.reached c.in-Some.end found.0 found.1 _ c.in-Err.fault c.in-Err.ensures) (refl, tt)

pub returns-in-Ok-true : goal.returns-in-Ok-true
returns-in-Ok-true c =
    let l = c.loop-rest in
    let found = c.in-Some.ensures in
    let took = rw c.in-Ok-true.field-0-test at c.in-Ok-true.ensures in
    let o = ends c.args.text.now l.rest.now l.line l.held.places l.invariant.reached c.in-Some.end found.0 found.1 _ took in
    (c.ended.ensures ∙ o.0, o.1)

pub loop-rest-preserved : goal.loop-rest-preserved
loop-rest-preserved c =
    let l = c.loop-rest in
    let found = c.in-Some.ensures in
    let took = rw c.in-Ok-false.field-0-test at c.in-Ok-false.ensures in
    let o = goes_on c.args.text.now l.rest.now l.line l.held.places l.invariant.reached c.in-Some.end found.0 found.1 _ took in
    let left = drop (c.in-Some.end + 1) l.rest.now in
    let all : take (length l.rest.now - (c.in-Some.end + 1)) left ≡ left = take_all (length l.rest.now - (c.in-Some.end + 1)) left (omega (arith, length-drop (c.in-Some.end + 1) l.rest.now)) in
    rw all (record { slow = omega (arith, o.1, length-drop (c.in-Some.end + 1) l.rest.now); reached = o.0 })
