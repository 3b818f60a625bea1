-- One byte more of a burst.
-- Assumes nothing.
use Rattle.std.proofs.Common.{◌≡◌, ℕ, suc, ◌+◌, ◌-◌, ◌%◌, ◌<◌, List, ◌++◌, length, get_or, take, drop, set, append_assoc, add-one, arith, drop-cons, take-suc-set}
use Rattle.bus.specs.Access.{laid, taken}

pub write_step : (bs fifo : List ℕ) (p i : ℕ) → i < length bs
    → laid (drop (i + 1) bs) ((p + 1) % 256) (set fifo p (get_or bs i 0)) ≡ laid (drop i bs) p fifo
write_step bs fifo p i h = rw (add-one i, drop-cons bs i 0)

pub read_step : (fifo items : List ℕ) (p i n : ℕ) → i < n → i < length items
    → take (i + 1) (set items i (get_or fifo p 0)) ++ taken ((p + 1) % 256) (n - (i + 1)) fifo ≡ take i items ++ taken p (n - i) fifo
read_step fifo items p i n h k =
    let e : n - i ≡ suc (n - suc i) = omega arith in
    rw (add-one i, e, take-suc-set, append_assoc)
