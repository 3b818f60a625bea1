-- `bus::admit::admit` meets its contract: what is not formed is refused, and then the verdicts follow each other.
use Rattle.std.proofs.Common.{◌≡◌, ℕ, ◌+◌, ◌-◌, ◌*◌, ◌%◌, ◌≤◌, Bool, true, false, ◌&&◌, eqb, leb, length, sym, refl, ◌∙◌, true≢false, arith, le-leb, leb-false, leb-true}
use borrow.Author.Tests.{lt-leb}
use Rattle.std.specs.Prelude.{Ok, Err}
use Rattle.std.specs.Result.{result_and}
use Rattle.params.specs.Errors.{Verdict, or}
use Rattle.bus.specs.Call.{well_formed, admitted}
use Rattle.bus.proofs.admit.admit.Goals as goal

-- room for n bytes after u of l
after : (u n l : ℕ) → u ≤ l → leb (u + n) l ≡ leb n (l - u)
after u n l h = go (leb n (l - u)) refl
  where
    go : (b : Bool) → leb n (l - u) ≡ b → leb (u + n) l ≡ b
    go true e = le-leb (u + n) l (omega (arith, leb-true n (l - u) e))
    go false e = lt-leb (u + n) l (omega (arith, leb-false n (l - u) e))

-- of four tests that all hold the last does
fourth : (a b c d : Bool) → (a && (b && (c && d))) ≡ true → d ≡ true
fourth true true true d h = h
fourth true true false d h = absurd (true≢false (sym h))
fourth true false c d h = absurd (true≢false (sym h))
fourth false b c d h = absurd (true≢false (sym h))

within : (image log used : ℕ) → well_formed image log used ≡ true → used ≤ log
within image log used h = leb-true used log (fourth (eqb image 128) (eqb (log % 3) 0) (eqb (used % 3) 0) (leb used log) h)

and_is_or : (v next : Verdict) → result_and v next ≡ or v next
and_is_or (Ok tt) next = refl
and_is_or (Err e) next = refl

pub returns-then-not-well_formed : goal.returns-then-not-well_formed
unfolding admitted
returns-then-not-well_formed c = simp (sym c.well_formed-2.ensures ∙ c.if-not-well_formed.true)

pub returns : goal.returns
unfolding admitted
returns c =
    let a = c.args in
    let formed : well_formed (length a.image.now) (length a.log.now) a.used ≡ true = sym c.well_formed-2.ensures ∙ c.if-not-well_formed.false in
    simp (formed, after a.used (3 * a.records) (length a.log.now) (within (length a.image.now) (length a.log.now) a.used formed), ← c.room-fits.ensures) (c.and.ensures ∙ and_is_or a.asked c.room-fits.result)
