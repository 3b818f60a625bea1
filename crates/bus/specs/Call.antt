-- A call: whether it is admitted, and then its whole outcome.
use Rattle.std.specs.Prelude.{◌≡◌, ℕ, ◌%◌, Bool, ◌&&◌, List, [], length, ◌==◌, nat_le, Ok, Err}
use Rattle.params.specs.declared.mod_params.RadioError.TheVariants.{BadImage, LogFull}
use Rattle.params.specs.Errors.{Verdict, Told, told, refusal, or}
use Rattle.refusals.specs.Refusals.{unless}
use Rattle.bus.specs.Steps.{Step, image_after, log_after, end_after, fifo_after, buffer_after}

-- ---- admission: 26, then what the arguments give, then 24

-- an image of 128 bytes, a log of whole records, and of them no more used than it has: lengths are enough to tell
abbrev pub well_formed : ℕ → ℕ → ℕ → Bool
well_formed image log used = image == 128 && (log % 3 == 0 && (used % 3 == 0 && nat_le used log))

abbrev pub formed : List ℕ → List ℕ → ℕ → Bool
formed im log used = well_formed (length im) (length log) used

abbrev pub formed_fifo : List ℕ → Bool
formed_fifo fifo = length fifo == 256

-- `end` is where the log would end
unfoldable pub admitted : Verdict → ℕ → List ℕ → List ℕ → ℕ → Verdict
admitted asked end im log used = or (unless (formed im log used) BadImage) (or asked (unless (nat_le end (length log)) LogFull))

-- a call that is lent a FIFO too
unfoldable pub admitted_fifo : Verdict → ℕ → List ℕ → List ℕ → List ℕ → ℕ → Verdict
admitted_fifo asked end im fifo log used = or (unless (formed_fifo fifo) BadImage) (admitted asked end im log used)

-- ---- outcome

-- All that a call determines. A call that is lent no FIFO or no buffer has empty ones.
pub record Outcome : Type 0 where
  pub tells : Told
  pub used : ℕ
  pub image : List ℕ
  pub fifo : List ℕ
  pub log : List ℕ
  pub buffer : List ℕ

-- a refusal leaves all as it was; a call that goes on does its steps and tells what it has to tell
abbrev pub settled : Verdict → Told → List Step → List ℕ → List ℕ → List ℕ → List ℕ → ℕ → Outcome
settled (Err e) t s im fifo log buffer used =
    record { tells = refusal e; used = used; image = im; fifo = fifo; log = log; buffer = buffer }
settled (Ok tt) t s im fifo log buffer used =
    record {
      tells = t;
      used = end_after s im used;
      image = image_after s im;
      fifo = fifo_after s im fifo;
      log = log_after s im log used;
      buffer = buffer_after s im fifo buffer;
    }

-- a call that is lent an image and a log
abbrev pub call : Verdict → Told → List Step → List ℕ → List ℕ → ℕ → Outcome
call asked t s im log used = settled (admitted asked (end_after s im used) im log used) t s im [] log [] used

-- one that is lent a FIFO and a buffer too
abbrev pub call_fifo : Verdict → Told → List Step → List ℕ → List ℕ → List ℕ → List ℕ → ℕ → Outcome
call_fifo asked t s im fifo log buffer used = settled (admitted_fifo asked (end_after s im used) im fifo log used) t s im fifo log buffer used

-- what a call that has nothing to tell tells
abbrev pub well : Told
well = told 0 []

-- What a call leaves is an outcome.
pub record Meets (o : Outcome) (t : Told) (used : ℕ) (im fifo log buffer : List ℕ) : Type 0 where
  pub answers : t ≡ o.tells
  pub ends : used ≡ o.used
  pub leaves : im ≡ o.image
  pub holds : fifo ≡ o.fifo
  pub logs : log ≡ o.log
  pub fills : buffer ≡ o.buffer
