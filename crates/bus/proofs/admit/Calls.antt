-- Laws of calls: what a clear verdict says, and that an outcome allows one result only.
-- Assumes nothing.
use Rattle.std.specs.Prelude.{Ok, Err}
use Rattle.std.proofs.Common.{◌≡◌, ℕ, ◌+◌, ◌*◌, ◌%◌, ◌≤◌, ◌&&◌, eqb, leb, List, [], ◌∷◌, length, sym, refl, ◌∙◌, eqb→eq, leb→le}
use Rattle.sheets.proofs.Sweep.{both}
use Rattle.params.specs.declared.mod_params.RadioError.{RadioError}
use Rattle.params.specs.declared.mod_params.RadioError.TheVariants.{BadImage, LogFull}
use Rattle.params.specs.Errors.{Verdict, Told, refusal, or}
use Rattle.refusals.specs.Refusals.{unless}
use Rattle.refusals.proofs.Clear.{passes, both_clear}
use Rattle.bus.specs.Access.{Access, read, write, fifo_read, fifo_write, rf_switch, reset_pin, sleep_write, laid, fifo_by}
use Rattle.bus.specs.Steps.{Step, accesses, fifo_played, end_after, fifo_after, Done, Makes, Quiet}
use Rattle.bus.specs.Call.{formed, formed_fifo, admitted, admitted_fifo, Outcome, Meets, call}

-- ---- a clear verdict

-- What a call that is admitted may count on.
pub record Room (asked : Verdict) (end : ℕ) (im log : List ℕ) : Type 0 where
  pub clear : asked ≡ (Ok tt)
  pub whole : length im ≡ 128
  pub room : end ≤ length log

pub admitted→room : (asked : Verdict) (end : ℕ) (im log : List ℕ) (used : ℕ) → admitted asked end im log used ≡ (Ok tt) → Room asked end im log
unfolding admitted
admitted→room asked end im log used p =
    let q = both_clear (unless (formed im log used) BadImage) (or asked (unless (leb end (length log)) LogFull)) p in
    let r = both_clear asked (unless (leb end (length log)) LogFull) q.1 in
    let f = both (eqb (length im) 128) (eqb (length log % 3) 0 && (eqb (used % 3) 0 && leb used (length log))) (passes (formed im log used) BadImage q.0) in
    record { clear = r.0; whole = eqb→eq (length im) 128 f.0; room = leb→le end (length log) (passes (leb end (length log)) LogFull r.1) }

pub admitted_fifo→room : (asked : Verdict) (end : ℕ) (im fifo log : List ℕ) (used : ℕ)
    → admitted_fifo asked end im fifo log used ≡ (Ok tt) → (length fifo ≡ 256) × Room asked end im log
unfolding admitted_fifo
admitted_fifo→room asked end im fifo log used p =
    let q = both_clear (unless (formed_fifo fifo) BadImage) (admitted asked end im log used) p in
    (eqb→eq (length fifo) 256 (passes (formed_fifo fifo) BadImage q.0), admitted→room asked end im log used q.1)

-- both, by one name
pub ruleset rooms = (admitted→room, admitted_fifo→room)

-- ---- no FIFO is lent

nothing_laid : (bs : List ℕ) (p : ℕ) → laid bs p [] ≡ []
nothing_laid [] p = refl
nothing_laid (b ∷ bs) p = nothing_laid bs _

by_none : (x : Access) (im : List ℕ) → fifo_by x im [] ≡ []
by_none (read a v) im = refl
by_none (write a v) im = refl
by_none (fifo_read n) im = refl
by_none (fifo_write bs) im = nothing_laid bs _
by_none (rf_switch p) im = refl
by_none reset_pin im = refl
by_none (sleep_write a v) im = refl

played_none : (xs : List Access) (im : List ℕ) → fifo_played xs im [] ≡ []
played_none [] im = refl
played_none (x ∷ xs) im = rw (by_none x im) (played_none xs _)

no_fifo : (s : List Step) (im : List ℕ) → fifo_after s im [] ≡ []
no_fifo [] im = refl
no_fifo (x ∷ s) im = rw (played_none (accesses x im) im) (no_fifo s _)

-- ---- the outcome of a call, by its verdict

-- What a call that is lent an image and a log is: its arguments' refusal, what it tells, its steps, and how many records they make.
pub record Operation : Type 0 where
  pub asked : Verdict
  pub tells : Told
  pub steps : List Step
  pub records : ℕ
  pub makes : Makes steps records
  pub quiet : Quiet steps

-- What follows from `admit`'s verdict v: the outcome of a refusal, the room of a call that goes on, and its outcome once its steps are done.
pub record Decided (o : Operation) (im log : List ℕ) (used : ℕ) (v : Verdict) : Type 0 where
  pub refused : {e : RadioError} → v ≡ Err e → Meets (call o.asked o.tells o.steps im log used) (refusal e) used im [] log []
  pub room : v ≡ (Ok tt) → Room o.asked (used + 3 * o.records) im log
  pub done : {r : ℕ} {im' log' : List ℕ} → v ≡ (Ok tt) → Done o.steps im log used r im' log'
      → Meets (call o.asked o.tells o.steps im log used) o.tells r im' [] log' []

-- v is what `admit` decided, given a refusal and a count of records that are the operation's
pub decided : (o : Operation) (im log : List ℕ) (used : ℕ) {v asked : Verdict} {n : ℕ} → asked ≡ o.asked → n ≡ o.records
    → v ≡ admitted asked (used + 3 * n) im log used → Decided o im log used v
decided o im log used {v} same count is = record {
  refused = λ {e} g. rw (by_verdict (Err e) g) (record { answers = refl; ends = refl; leaves = refl; holds = refl; logs = refl; fills = refl });
  room = λ g. admitted→room o.asked (used + 3 * o.records) im log used (rw (o.makes im used) at (by_verdict (Ok tt) g));
  done = λ g d. rw (by_verdict (Ok tt) g) (record { answers = refl; ends = d.ends; leaves = d.stored; holds = sym (no_fifo o.steps im); logs = d.logged; fills = sym (o.quiet im) });
}
  where
    by_verdict : (w : Verdict) → v ≡ w → admitted o.asked (end_after o.steps im used) im log used ≡ w
    by_verdict w e = rw (o.makes im used, ← same, ← count) (sym is ∙ e)

-- ---- one result

module _ {o : Outcome} {t t' : Told} {u u' : ℕ} {im im' fifo fifo' log log' buffer buffer' : List ℕ} where
  -- two results that meet one outcome are one
  pub only : Meets o t u im fifo log buffer → Meets o t' u' im' fifo' log' buffer'
      → (t ≡ t') × (u ≡ u') × (im ≡ im') × (fifo ≡ fifo') × (log ≡ log') × (buffer ≡ buffer')
  only p q =
      (p.answers ∙ sym q.answers, p.ends ∙ sym q.ends, p.leaves ∙ sym q.leaves, p.holds ∙ sym q.holds, p.logs ∙ sym q.logs, p.fills ∙ sym q.fills)
