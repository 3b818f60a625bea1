-- The steps of an operation, and what a run of them leaves.
use Rattle.std.specs.Prelude.{◌≡◌, ℕ, ◌+◌, ◌*◌, List, [], ◌∷◌, slice_index}
use Rattle.sheets.specs.Bits.{Field, replaced, others, at}
use Rattle.bus.specs.Access.{Access, read, write, fifo_read, fifo_write, rf_switch, reset_pin, sleep_write, kind, place, datum, put3, image_by, fifo_by, buffer_by}

pub data Step : Type 0 where
  Read : ℕ → Step
  Write : ℕ → ℕ → Step
  -- a read, and a write of what was read with only the bits under the mask kept and new ones put beside them
  Modify : ℕ → ℕ → ℕ → Step
  FifoRead : ℕ → Step
  FifoWrite : List ℕ → Step
  RfSwitch : ℕ → Step
  ResetPin : Step
  SleepWrite : ℕ → ℕ → Step

-- a value put into a field, with the rest of its register kept
abbrev pub put_field : Field → ℕ → Step
put_field f v = Modify f.register (others f) (at f v)

-- the accesses of a step, on the image that it finds
abbrev pub accesses : Step → List ℕ → List Access
accesses (Read a) im = read a (slice_index im a) ∷ []
accesses (Write a v) im = write a v ∷ []
accesses (Modify a keep new) im = read a (slice_index im a) ∷ write a (replaced keep new (slice_index im a)) ∷ []
accesses (FifoRead n) im = fifo_read n ∷ []
accesses (FifoWrite bs) im = fifo_write bs ∷ []
accesses (RfSwitch p) im = rf_switch p ∷ []
accesses ResetPin im = reset_pin ∷ []
accesses (SleepWrite a v) im = sleep_write a v ∷ []

-- ---- accesses in a row

abbrev pub image_played : List Access → List ℕ → List ℕ
image_played [] im = im
image_played (x ∷ xs) im = image_played xs (image_by x im)

abbrev pub log_played : List Access → List ℕ → ℕ → List ℕ
log_played [] log at = log
log_played (x ∷ xs) log at = log_played xs (put3 log at (kind x) (place x) (datum x)) (at + 3)

abbrev pub end_played : List Access → ℕ → ℕ
end_played [] at = at
end_played (x ∷ xs) at = end_played xs (at + 3)

abbrev pub fifo_played : List Access → List ℕ → List ℕ → List ℕ
fifo_played [] im fifo = fifo
fifo_played (x ∷ xs) im fifo = fifo_played xs (image_by x im) (fifo_by x im fifo)

abbrev pub buffer_played : List Access → List ℕ → List ℕ → List ℕ → List ℕ
buffer_played [] im fifo buffer = buffer
buffer_played (x ∷ xs) im fifo buffer = buffer_played xs (image_by x im) (fifo_by x im fifo) (buffer_by x im fifo buffer)

-- ---- steps in a row

abbrev pub image_after : List Step → List ℕ → List ℕ
image_after [] im = im
image_after (s ∷ ss) im = image_after ss (image_played (accesses s im) im)

abbrev pub log_after : List Step → List ℕ → List ℕ → ℕ → List ℕ
log_after [] im log at = log
log_after (s ∷ ss) im log at =
    log_after ss (image_played (accesses s im) im) (log_played (accesses s im) log at) (end_played (accesses s im) at)

-- where the log ends: its growth is the number of records, three bytes each
abbrev pub end_after : List Step → List ℕ → ℕ → ℕ
end_after [] im at = at
end_after (s ∷ ss) im at = end_after ss (image_played (accesses s im) im) (end_played (accesses s im) at)

abbrev pub fifo_after : List Step → List ℕ → List ℕ → List ℕ
fifo_after [] im fifo = fifo
fifo_after (s ∷ ss) im fifo = fifo_after ss (image_played (accesses s im) im) (fifo_played (accesses s im) im fifo)

abbrev pub buffer_after : List Step → List ℕ → List ℕ → List ℕ → List ℕ
buffer_after [] im fifo buffer = buffer
buffer_after (s ∷ ss) im fifo buffer =
    buffer_after ss (image_played (accesses s im) im) (fifo_played (accesses s im) im fifo) (buffer_played (accesses s im) im fifo buffer)

-- Steps that were done, from a place in the log on: where the log ends now, and what log and image are.
pub record Done (s : List Step) (im log : List ℕ) (at r : ℕ) (im' log' : List ℕ) : Type 0 where
  pub ends : r ≡ end_after s im at
  pub logged : log' ≡ log_after s im log at
  pub stored : im' ≡ image_after s im

-- These steps make n records, on any image: the log grows by three bytes for each.
abbrev pub Makes : List Step → ℕ → Type 0
Makes s n = (im : List ℕ) (at : ℕ) → end_after s im at ≡ at + 3 * n

-- These steps read nothing into a buffer.
abbrev pub Quiet : List Step → Type 0
Quiet s = (im : List ℕ) → buffer_after s im [] [] ≡ []
