-- `set_irq_params`, `process_irq_event`.
use Rattle.std.specs.Prelude.{List, [], ◌∷◌, ℕ, zero, suc, get_or, pos, Option, Some, None, Result, Ok, Err}
use Rattle.sheets.specs.Registers.{reg_irq_flags_mask, reg_irq_flags, reg_dio_mapping1}
use Rattle.sheets.specs.Interrupts.{Activity, Activity.other, Event, Event.nothing, Event.preamble_received, Event.done, Event.timed_out, Event.channel_checked, shut_out, mapping_keeps, mapping, clearing, event}
use Rattle.params.specs.declared.mod_params.RadioError.TheVariants.{InvalidConfiguration, InvalidRadioMode, ReceiveTimeout}
use Rattle.params.specs.declared.mod_params.RadioError.{RadioError}
use Rattle.params.specs.declared.mod_params.RxMode.TheVariants.{Single, Continuous, DutyCycle}
use Rattle.params.specs.declared.mod_params.RadioMode.{RadioMode}
use Rattle.params.specs.declared.mod_params.RadioMode.TheVariants.{Sleep, Standby, FrequencySynthesis, Transmit, Receive, ChannelActivityDetection}
use Rattle.params.specs.Answers.{flag_value}
use Rattle.params.specs.Errors.{Verdict, Told, told, refusal, or}
use Rattle.refusals.specs.Modes.{mode_of, activity}
use Rattle.refusals.specs.Refusals.{flag}
use Rattle.bus.specs.Steps.{Step, Read, Write, Modify}
use Rattle.bus.specs.Call.{Outcome, call, well}

-- ---- set up

abbrev pub preparing : Activity → List Step
preparing a = Write reg_irq_flags_mask (shut_out a) ∷ Modify reg_dio_mapping1 (mapping_keeps a) (mapping a) ∷ Write reg_irq_flags (clearing a) ∷ []

-- no mode is one of the others
abbrev pub activity_of : Result (Option RadioMode) RadioError → Activity
activity_of (Ok (Some m)) = activity m
activity_of (Ok None) = other
activity_of (Err e) = other

abbrev pub irq_refusal : Result (Option RadioMode) RadioError → Verdict
irq_refusal (Ok mode) = Ok tt
irq_refusal (Err e) = Err e

abbrev pub set_irq_as : Result (Option RadioMode) RadioError → List ℕ → List ℕ → ℕ → Outcome
set_irq_as m = call (irq_refusal m) well (preparing (activity_of m))

abbrev pub set_irq : ℕ → ℕ → List ℕ → List ℕ → ℕ → Outcome
set_irq code rx_code = set_irq_as (mode_of code rx_code)

-- ---- an interrupt

-- the flags are read, and all of them cleared when asked
abbrev pub looking : ℕ → List Step
looking zero = Read reg_irq_flags ∷ []
looking (suc c) = Read reg_irq_flags ∷ Write reg_irq_flags 255 ∷ []

-- a mode has to be named; where the Rust would panic, 9
abbrev pub event_refusal : Result (Option RadioMode) RadioError → Verdict
event_refusal (Ok (Some Sleep)) = Ok tt
event_refusal (Ok (Some Standby)) = Ok tt
event_refusal (Ok (Some FrequencySynthesis)) = Err InvalidRadioMode
event_refusal (Ok (Some Transmit)) = Ok tt
event_refusal (Ok (Some (Receive (Single n)))) = Ok tt
event_refusal (Ok (Some (Receive Continuous))) = Ok tt
event_refusal (Ok (Some (Receive DutyCycle))) = Err InvalidRadioMode
event_refusal (Ok (Some ChannelActivityDetection)) = Ok tt
event_refusal (Ok None) = Err InvalidConfiguration
event_refusal (Err e) = Err e

-- 20 is told after its steps are done
abbrev pub event_told : Event → Told
event_told nothing = told 0 (pos 0 ∷ [])
event_told preamble_received = told 0 (pos 1 ∷ [])
event_told done = told 0 (pos 2 ∷ [])
event_told (channel_checked found) = told 0 (pos 2 ∷ flag_value found ∷ [])
event_told timed_out = refusal ReceiveTimeout

abbrev pub process_as : Result (Option RadioMode) RadioError → ℕ → List ℕ → List ℕ → ℕ → Outcome
process_as m clear im =
    call (or (flag clear) (event_refusal m)) (event_told (event (activity_of m) (get_or im reg_irq_flags 0))) (looking clear) im

abbrev pub process_irq : ℕ → ℕ → ℕ → List ℕ → List ℕ → ℕ → Outcome
process_irq code rx_code clear = process_as (mode_of code rx_code) clear
