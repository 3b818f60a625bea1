-- Laws of calls that are lent a FIFO: their outcome by what `admit_fifo` decided.
-- Assumes nothing.
use Rattle.std.specs.Prelude.{Ok, Err}
use mathlib.Core.Path.{◌≡◌, refl, sym, ◌∙◌}
use mathlib.Core.List.{List}
use Prim.Native.Nat.{ℕ, ◌+◌, ◌*◌, ◌≤◌}
use lib.Dec.{leb, leb→le}
use lib.ListN.{length}
use Rattle.params.specs.declared.mod_params.RadioError.{RadioError}
use Rattle.params.specs.declared.mod_params.RadioError.TheVariants.{PayloadSizeUnexpected}
use Rattle.params.specs.Errors.{Verdict, Told, refusal}
use Rattle.refusals.specs.Refusals.{payload_length}
use Rattle.refusals.proofs.Clear.{passes}
use Rattle.bus.specs.Steps.{Step}
use Rattle.bus.specs.Call.{Meets, admitted_fifo, settled, well}
use Rattle.bus.proofs.admit.Calls.{Room, admitted_fifo→room}
use Rattle.operations.specs.Packets.{sending, received, start_of, fetch_told, fetch_steps}

-- What a call that is lent a FIFO is: its arguments' refusal, the records that it asks room for, what it tells, and its steps.
pub record FifoOperation : Type 0 where
  pub asked : Verdict
  pub records : ℕ
  pub tells : Told
  pub steps : List Step

abbrev pub payload_op : List ℕ → FifoOperation
payload_op bytes = record { asked = payload_length (length bytes); records = 4; tells = well; steps = sending bytes }

-- n is the room of the buffer
abbrev pub fetch_op : List ℕ → ℕ → FifoOperation
fetch_op im n = record {
  asked = (Ok tt);
  records = 5;
  tells = fetch_told (leb (received im) n) (received im) n;
  steps = fetch_steps (leb (received im) n) (start_of im) (received im);
}

-- a payload that 12 does not refuse
pub short : (n : ℕ) → payload_length n ≡ (Ok tt) → n ≤ 255
short n p = leb→le n 255 (passes (leb n 255) (PayloadSizeUnexpected n) p)

-- v is what `admit_fifo` decided, given a refusal that is the operation's and its count of records, which leads to the log's end
module _ (o : FifoOperation) (im fifo log buffer : List ℕ) (used : ℕ) {v asked : Verdict} {end : ℕ} (same : asked ≡ o.asked)
    (count : end ≡ used + 3 * o.records) (decided : v ≡ admitted_fifo asked (used + 3 * o.records) im fifo log used) where
  by_verdict : (w : Verdict) → v ≡ w → admitted_fifo o.asked end im fifo log used ≡ w
  by_verdict w e = rw (count, ← same) (sym decided ∙ e)

  pub refused : {e : RadioError} → v ≡ Err e
      → Meets (settled (admitted_fifo o.asked end im fifo log used) o.tells o.steps im fifo log buffer used) (refusal e) used im fifo log buffer
  refused {e} g =
      rw (by_verdict (Err e) g) (record { answers = refl; ends = refl; leaves = refl; holds = refl; logs = refl; fills = refl })

  pub room_for : v ≡ (Ok tt) → (length fifo ≡ 256) × Room o.asked (used + 3 * o.records) im log
  room_for g = admitted_fifo→room o.asked (used + 3 * o.records) im fifo log used (rw count at (by_verdict (Ok tt) g))

  -- one that goes on has to meet what a clear verdict leaves
  pub goes_on : {t : Told} {used' : ℕ} {im' fifo' log' buffer' : List ℕ} → v ≡ (Ok tt)
      → Meets (settled (Ok tt) o.tells o.steps im fifo log buffer used) t used' im' fifo' log' buffer'
      → Meets (settled (admitted_fifo o.asked end im fifo log used) o.tells o.steps im fifo log buffer used) t used' im' fifo' log' buffer'
  goes_on g m = rw (by_verdict (Ok tt) g) m
