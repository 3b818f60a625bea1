-- `init_lora`, `set_tx_rx_buffer_base_address`, `set_channel`.
use Rattle.std.specs.Prelude.{Bool, true, false, List, [], ◌∷◌, ◌++◌, ℕ, Ok}
use Rattle.sheets.specs.declared.Variant.{Variant}
use Rattle.sheets.specs.Bits.{at}
use Rattle.sheets.specs.Registers.{reg_tcxo, tcxo_input_on, reg_sync_word, reg_fifo_tx_base_addr, reg_fifo_rx_base_addr, reg_frf_msb, reg_frf_mid, reg_frf_lsb}
use Rattle.sheets.specs.Frequency.{steps, frf_msb, frf_mid, frf_lsb}
use Rattle.sheets.specs.Modem.{sync_word}
use Rattle.params.specs.declared.board.Board.{Board}
use Rattle.refusals.specs.Refusals.{flag, base_addresses}
use Rattle.bus.specs.Steps.{Step, Write}
use Rattle.bus.specs.Call.{Outcome, call, well}

-- the oscillator's input is turned on where the board has one; the register's other bits become 0, the Rust's way
abbrev pub oscillator : Variant → Bool → List Step
oscillator v true = Write (reg_tcxo v) (at (tcxo_input_on v) 1) ∷ []
oscillator v false = []

-- both bases are written 0, whatever was asked: the Rust's way
abbrev pub bases : List Step
bases = Write reg_fifo_tx_base_addr 0 ∷ Write reg_fifo_rx_base_addr 0 ∷ []

abbrev pub network : ℕ → List Step
network public = Write reg_sync_word (sync_word public) ∷ []

abbrev pub initialization : Board → ℕ → List Step
initialization b public = oscillator b.variant b.tcxo_used ++ (network public ++ bases)

-- the new frequency takes effect with the last byte
abbrev pub channel : ℕ → List Step
channel hz = Write reg_frf_msb (frf_msb (steps hz)) ∷ Write reg_frf_mid (frf_mid (steps hz)) ∷ Write reg_frf_lsb (frf_lsb (steps hz)) ∷ []

-- ---- the calls

abbrev pub init_lora : Board → ℕ → List ℕ → List ℕ → ℕ → Outcome
init_lora b public = call (flag public) well (initialization b public)

abbrev pub set_bases : ℕ → ℕ → List ℕ → List ℕ → ℕ → Outcome
set_bases tx rx = call (base_addresses tx rx) well bases

abbrev pub set_channel : ℕ → List ℕ → List ℕ → ℕ → Outcome
set_channel hz = call (Ok tt) well (channel hz)
