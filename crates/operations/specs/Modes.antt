-- `reset`, `set_standby`, `set_sleep`, `do_tx`, `do_rx`, `do_cad`, `set_tx_continuous_wave_mode`.
use Rattle.std.specs.Prelude.{Bool, List, [], ◌∷◌, ◌++◌, ℕ, Result, Ok, Err}
use Rattle.sheets.specs.declared.Variant.{Variant}
use Rattle.sheets.specs.Registers.{reg_op_mode, reg_lna, reg_fifo_addr_ptr, reg_payload_length, reg_symb_timeout_lsb, symb_timeout_msb, pa_select, tx_continuous_mode}
use Rattle.sheets.specs.Receive.{op_mode, carrier_mode, lna, window, window_msb, window_lsb}
use Rattle.params.specs.declared.mod_params.RadioError.TheVariants.{DutyCycleUnsupported}
use Rattle.params.specs.declared.mod_params.RadioError.{RadioError}
use Rattle.params.specs.declared.mod_params.RxMode.{RxMode}
use Rattle.params.specs.declared.mod_params.RxMode.TheVariants.{Single, Continuous, DutyCycle}
use Rattle.refusals.specs.Modes.{rx_mode_of}
use Rattle.refusals.specs.Refusals.{carrier}
use Rattle.bus.specs.Steps.{Step, Write, put_field, RfSwitch, ResetPin, SleepWrite}
use Rattle.bus.specs.Call.{Outcome, call, well}
use Rattle.params.specs.Errors.{Verdict}

-- ---- the antenna switch

abbrev pub off : ℕ
off = 0

abbrev pub receive : ℕ
receive = 1

abbrev pub transmit : ℕ
transmit = 2

-- ---- steps

abbrev pub standby : List Step
standby = Write reg_op_mode (op_mode 1) ∷ RfSwitch off ∷ []

-- the host does not wait for a radio that goes to sleep
abbrev pub sleep : List Step
sleep = RfSwitch off ∷ SleepWrite reg_op_mode (op_mode 0) ∷ []

abbrev pub resetting : List Step
resetting = ResetPin ∷ sleep

abbrev pub transmission : List Step
transmission = RfSwitch transmit ∷ Write reg_op_mode (op_mode 3) ∷ []

abbrev pub detecting : Bool → List Step
detecting boost = RfSwitch receive ∷ Write reg_lna (lna boost) ∷ Write reg_op_mode (op_mode 7) ∷ []

-- how many symbols a receive waits for a preamble
abbrev pub waiting : ℕ → List Step
waiting w = put_field symb_timeout_msb (window_msb w) ∷ Write reg_symb_timeout_lsb (window_lsb w) ∷ []

-- the FIFO from its start, packets of any length; with an implicit header, too, the Rust writes 255 for the length
abbrev pub listening : Bool → ℕ → List Step
listening boost m = Write reg_lna (lna boost) ∷ Write reg_fifo_addr_ptr 0 ∷ Write reg_payload_length 255 ∷ Write reg_op_mode m ∷ []

abbrev pub reception : Bool → ℕ → ℕ → List Step
reception boost w m = RfSwitch receive ∷ (waiting w ++ listening boost m)

-- the Rust turns the switch to receive, and transmits by PA_BOOST whatever the board
abbrev pub carrier_test : List Step
carrier_test = RfSwitch receive ∷ put_field pa_select 1 ∷ Write reg_op_mode carrier_mode ∷ put_field tx_continuous_mode 1 ∷ []

-- ---- a receive mode: its refusal, its window and its mode

abbrev pub rx_refusal : Result RxMode RadioError → Verdict
rx_refusal (Ok (Single n)) = Ok tt
rx_refusal (Ok Continuous) = Ok tt
rx_refusal (Ok DutyCycle) = Err DutyCycleUnsupported
rx_refusal (Err e) = Err e

abbrev pub rx_window : Result RxMode RadioError → ℕ
rx_window (Ok (Single n)) = window n
rx_window (Ok Continuous) = 0
rx_window (Ok DutyCycle) = 0
rx_window (Err e) = 0

abbrev pub rx_op_mode : Result RxMode RadioError → ℕ
rx_op_mode (Ok (Single n)) = op_mode 6
rx_op_mode (Ok Continuous) = op_mode 5
rx_op_mode (Ok DutyCycle) = op_mode 5
rx_op_mode (Err e) = op_mode 5

-- ---- the calls

abbrev pub set_standby : List ℕ → List ℕ → ℕ → Outcome
set_standby = call (Ok tt) well standby

abbrev pub set_sleep : List ℕ → List ℕ → ℕ → Outcome
set_sleep = call (Ok tt) well sleep

abbrev pub reset : List ℕ → List ℕ → ℕ → Outcome
reset = call (Ok tt) well resetting

abbrev pub do_tx : List ℕ → List ℕ → ℕ → Outcome
do_tx = call (Ok tt) well transmission

abbrev pub do_cad : Bool → List ℕ → List ℕ → ℕ → Outcome
do_cad boost = call (Ok tt) well (detecting boost)

abbrev pub do_rx_as : Bool → Result RxMode RadioError → List ℕ → List ℕ → ℕ → Outcome
do_rx_as boost m = call (rx_refusal m) well (reception boost (rx_window m) (rx_op_mode m))

abbrev pub do_rx : Bool → ℕ → ℕ → List ℕ → List ℕ → ℕ → Outcome
do_rx boost code n = do_rx_as boost (rx_mode_of code n)

abbrev pub set_carrier : Variant → List ℕ → List ℕ → ℕ → Outcome
set_carrier v = call (carrier v) well carrier_test
