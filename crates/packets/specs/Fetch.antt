-- A part of `get_payload`: what follows the read of the packet's length.
use Rattle.std.specs.Prelude.{List, [], ◌∷◌, ℕ}
use Rattle.sheets.specs.Registers.{reg_fifo_addr_ptr, reg_fifo_rx_current_addr}
use Rattle.bus.specs.Steps.{Step, Read, Write, FifoRead}

abbrev pub unloading : ℕ → ℕ → List Step
unloading start n = Read reg_fifo_rx_current_addr ∷ Write reg_fifo_addr_ptr start ∷ FifoRead n ∷ Write reg_fifo_addr_ptr 0 ∷ []
