-- `reader::examined` meets its contract: the registers before the last fit, and with it they do not, or they are all.
use Rattle.std.proofs.Common.{◌≡◌, ℕ, ◌+◌, ◌<◌, T, Bool, true, List, get_or, take, ◌&&◌, sym, subst, ◌∙◌, add-one, below_more, arith}
use Rattle.sheets.specs.Reader.{reader_order}
use Rattle.params.specs.declared.mod_params.Link.{Link}
use Rattle.params.specs.declared.board.Board.{Board}
use Rattle.page.specs.Page.{guess, first, fits, find, improved, holds}
use Rattle.page.specs.Links.{accepted}
use Rattle.page.specs.Lora.{page, places_of}
use Rattle.reader.specs.Tests.{registers}
use Rattle.reader.specs.Look.{Fit}
use Rattle.reader.proofs.fitting.Order.{order_lt, order_le}
use Rattle.reader.proofs.SoFar.{next_guess, begins, fit_is}
use Rattle.reader.proofs.examined.Goals as goal

-- the guess t' that a register r more makes of the guess t, and whether it fits
module _ (b : Board) (im : List ℕ) (i r : ℕ) (t t' : Link) (turn : i < registers b) (order : r ≡ get_or (reader_order b.variant true) i 0)
    (so_far : t ≡ guess (first (page b) i) im) (learnt : t' ≡ improved (find r (places_of b)) (get_or im r 0) t) where
  next : t' ≡ guess (first (page b) (i + 1)) im
  next = rw (add-one i) ((rw order at learnt) ∙ next_guess b i turn im t so_far)

  fit : (f : Bool) → f ≡ (accepted b.variant t' && holds (take (i + 1) (places_of b)) t' im) → f ≡ fits (first (page b) (i + 1)) im
  fit f e = e ∙ fit_is b (i + 1) im t' next

pub loop-i-init : goal.loop-i-init
loop-i-init c =
    let a = c.args in
    record {
      so_far = c.blank-guess.ensures;
      fit = λ k h. let z : 0 ≡ k = omega arith in subst (Fit a.board a.image.now) z (begins a.board a.image.now);
    }

pub bounds-image-register : goal.bounds-image-register
bounds-image-register c =
    let b = c.args.board in
    let h = order_le b.variant b.tcxo_used in
    rw c.reader_order-register.ensures (order_lt b.variant c.loop-i.i (omega arith))

pub returns-then-not-fits : goal.returns-then-not-fits
returns-then-not-fits c =
    let a = c.args in
    let i = c.loop-i.i in
    let told = fit a.board a.image.now i _ c.loop-i.guess c.learn-guess.result (omega arith) c.reader_order-register.ensures c.loop-i.invariant.so_far c.learn-guess.ensures c.fits.result c.fits.ensures in
    record {
      within = omega arith;
      before = λ n h. c.loop-i.invariant.fit n (omega arith);
      last = λ f. absurd (subst T c.if-not-fits.true (subst T (sym told) f));
    }

pub loop-i-preserved : goal.loop-i-preserved
loop-i-preserved c =
    let a = c.args in
    let i = c.loop-i.i in
    let guessed = next a.board a.image.now i _ c.loop-i.guess c.learn-guess.result (omega arith) c.reader_order-register.ensures c.loop-i.invariant.so_far c.learn-guess.ensures in
    let told = fit a.board a.image.now i _ c.loop-i.guess c.learn-guess.result (omega arith) c.reader_order-register.ensures c.loop-i.invariant.so_far c.learn-guess.ensures c.fits.result c.fits.ensures in
    record {
      so_far = guessed;
      fit = below_more _ _ c.loop-i.invariant.fit (subst T told (rw c.if-not-fits.false tt));
    }
