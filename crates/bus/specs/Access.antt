-- One access to the bus: its record in the log, and its own effect on image, FIFO and payload buffer.
-- Document 01, "Image, FIFO, log".
use Rattle.std.specs.Prelude.{ℕ, zero, suc, ◌+◌, ◌%◌, cond, List, [], ◌∷◌, ◌++◌, length, drop, ◌==◌, slice_index, slice_set}
use Rattle.sheets.specs.Interrupts.{cleared}
use Rattle.sheets.specs.Registers.{reg_fifo, reg_irq_flags, reg_fifo_addr_ptr}

-- Kinds 0 to 6, in this order.
pub data Access : Type 0 where
  -- an address and what it held
  read : ℕ → ℕ → Access
  -- an address and the byte written
  write : ℕ → ℕ → Access
  -- how many bytes of the FIFO are read
  fifo_read : ℕ → Access
  -- the bytes written to the FIFO
  fifo_write : List ℕ → Access
  -- 0 off, 1 receive, 2 transmit
  rf_switch : ℕ → Access
  reset_pin : Access
  -- a write with the sleep flag
  sleep_write : ℕ → ℕ → Access

-- ---- the record: kind, address, data

abbrev pub kind : Access → ℕ
kind (read a v) = 0
kind (write a v) = 1
kind (fifo_read n) = 2
kind (fifo_write bs) = 3
kind (rf_switch p) = 4
kind reset_pin = 5
kind (sleep_write a v) = 6

abbrev pub place : Access → ℕ
place (read a v) = a
place (write a v) = a
place (fifo_read n) = reg_fifo
place (fifo_write bs) = reg_fifo
place (rf_switch p) = 0
place reset_pin = 0
place (sleep_write a v) = a

abbrev pub datum : Access → ℕ
datum (read a v) = v
datum (write a v) = v
datum (fifo_read n) = n
datum (fifo_write bs) = length bs
datum (rf_switch p) = p
datum reset_pin = 0
datum (sleep_write a v) = v

abbrev pub put3 : List ℕ → ℕ → ℕ → ℕ → ℕ → List ℕ
put3 log at k a d = slice_set (slice_set (slice_set log at k) (at + 1) a) (at + 2) d

-- ---- the image

-- a write stores its byte, but to RegIrqFlags it clears the flags that are 1 in it
abbrev pub stored : ℕ → ℕ → ℕ → ℕ
stored a v old = cond (a == reg_irq_flags) (cleared v old) v

abbrev pub store : ℕ → ℕ → List ℕ → List ℕ
store a v im = slice_set im a (stored a v (slice_index im a))

-- where the FIFO goes on
abbrev pub pointer : List ℕ → ℕ
pointer im = slice_index im reg_fifo_addr_ptr

-- the pointer goes up by one for each byte, and from 255 to 0
abbrev pub moved : ℕ → List ℕ → List ℕ
moved n im = slice_set im reg_fifo_addr_ptr ((pointer im + n) % 256)

abbrev pub image_by : Access → List ℕ → List ℕ
image_by (read a v) im = im
image_by (write a v) im = store a v im
image_by (fifo_read n) im = moved n im
image_by (fifo_write bs) im = moved (length bs) im
image_by (rf_switch p) im = im
image_by reset_pin im = im
image_by (sleep_write a v) im = store a v im

-- ---- the FIFO, and the buffer that bytes of it are read into

-- bytes stored one after the other from a place on
abbrev pub laid : List ℕ → ℕ → List ℕ → List ℕ
laid [] p fifo = fifo
laid (b ∷ bs) p fifo = laid bs ((p + 1) % 256) (slice_set fifo p b)

-- as many bytes from a place on
abbrev pub taken : ℕ → ℕ → List ℕ → List ℕ
taken p zero fifo = []
taken p (suc n) fifo = slice_index fifo p ∷ taken ((p + 1) % 256) n fifo

abbrev pub fifo_by : Access → List ℕ → List ℕ → List ℕ
fifo_by (read a v) im fifo = fifo
fifo_by (write a v) im fifo = fifo
fifo_by (fifo_read n) im fifo = fifo
fifo_by (fifo_write bs) im fifo = laid bs (pointer im) fifo
fifo_by (rf_switch p) im fifo = fifo
fifo_by reset_pin im fifo = fifo
fifo_by (sleep_write a v) im fifo = fifo

-- bytes past those read stay as they were
abbrev pub buffer_by : Access → List ℕ → List ℕ → List ℕ → List ℕ
buffer_by (read a v) im fifo buffer = buffer
buffer_by (write a v) im fifo buffer = buffer
buffer_by (fifo_read n) im fifo buffer = taken (pointer im) n fifo ++ drop n buffer
buffer_by (fifo_write bs) im fifo buffer = buffer
buffer_by (rf_switch p) im fifo buffer = buffer
buffer_by reset_pin im fifo buffer = buffer
buffer_by (sleep_write a v) im fifo buffer = buffer
