-- `intel_hex::write_hex` meets its contract: an image that is none, a text that has no room, and the layout.
use Rattle.std.proofs.Common.{◌≡◌, length, refl, arith, rules}
use borrow.Author.Tests.{eq-eqb, le-leb}
use Rattle.text.specs.Text.{over}
use Rattle.intel_hex.specs.Calls.{write_answer, write_leaves}
use Rattle.intel_hex.proofs.Back.{layout_size_lem}
use Rattle.intel_hex.proofs.write_hex.Goals as goal

pub returns : goal.returns
unfolding write_answer write_leaves over
returns c =
    let a = c.args in
    let size : length a.image.now ≡ 128 = omega arith in
    let long = layout_size_lem a.image.now size in
    let leaves = rw long at c.put_layout.ensures.appended.leaves in
    rw (eq-eqb (length a.image.now) 128 size, le-leb 364 (length a.text.now) (omega arith)) (refl, search (rules, leaves, c.put_layout.ensures.same))
