-- `text::put_decimals::spell` meets its contract: the digits that are left to spell, and those that stand already, say the number.
use Rattle.std.proofs.Common.{◌≡◌, ◌+◌, ◌-◌, ◌/◌, ◌%◌, ◌^◌, ◌≤◌, ◌<◌, length, length-set, slice_set, drop_of_length-le, append-nil, subst, add-one, arith, ◌∙◌}
use Rattle.text.specs.Numbers.{decimal}
use Rattle.text.proofs.put_decimals.Digits.{spelling, digit_more, fewer}
use Rattle.text.proofs.put_decimals.spell.Goals as goal

pub loop-rest-init : goal.loop-rest-init
unfolding decimal
loop-rest-init c =
    let l : length c.args.place.now ≤ 20 = omega (arith, c.requires) in
    (omega arith, c.requires, omega (arith, c.ranges.n), rw (drop_of_length-le c.args.place.now l, append-nil))

pub loop-rest-preserved : goal.loop-rest-preserved
loop-rest-preserved c =
    let l = c.loop-rest in
    let f = fewer l.from l.rest c.loop-rest-test.true (rw add-one at l.invariant.2) in
    let e : l.from ≡ l.from - 1 + 1 = omega (arith, f.0) in
    let m = digit_more l.from l.rest l.place c.loop-rest-test.true (omega (arith, l.invariant.1)) ∙ rw add-one at l.invariant.3 in
    (omega arith, simp length-set l.invariant.1, subst (λ k. l.rest / 10 < 10 ^ k) e f.1, subst (λ k. spelling k (l.rest / 10) (slice_set l.place l.from (48 + l.rest % 10)) ≡ decimal c.args.n) e m)
