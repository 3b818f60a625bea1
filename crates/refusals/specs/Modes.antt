-- The cases that mode numbers name: the Rust's `RadioMode` and `RxMode`, numbered from 0 in declared order.
use Rattle.std.specs.Prelude.{List, [], ◌∷◌, ℕ, get_or, Option, Some, None, Result, Ok, Err}
use Rattle.sheets.specs.Interrupts.{Activity, Activity.transmitting, Activity.receiving, Activity.detecting, Activity.other}
use Rattle.params.specs.declared.mod_params.RadioError.{RadioError}
use Rattle.params.specs.declared.mod_params.RadioError.TheVariants.{InvalidConfiguration}
use Rattle.params.specs.declared.mod_params.RxMode.{RxMode}
use Rattle.params.specs.declared.mod_params.RxMode.TheVariants.{Single, Continuous, DutyCycle}
use Rattle.params.specs.declared.mod_params.RadioMode.{RadioMode}
use Rattle.params.specs.declared.mod_params.RadioMode.TheVariants.{Sleep, Standby, FrequencySynthesis, Transmit, Receive, ChannelActivityDetection}

-- a single receive waits for n symbols
abbrev pub rx_modes : ℕ → List (Result RxMode RadioError)
rx_modes n = Ok (Single n) ∷ Ok Continuous ∷ Ok DutyCycle ∷ []

unfoldable pub rx_mode_of : ℕ → ℕ → Result RxMode RadioError
rx_mode_of code n = get_or (rx_modes n) code (Err InvalidConfiguration)

abbrev pub received : Result RxMode RadioError → Result (Option RadioMode) RadioError
received (Ok m) = Ok (Some (Receive m))
received (Err e) = Err e

-- the second code counts in Receive alone, where no symbols are told; 6 is no mode
abbrev pub modes : ℕ → List (Result (Option RadioMode) RadioError)
modes rx_code =
    Ok (Some Sleep) ∷ Ok (Some Standby) ∷ Ok (Some FrequencySynthesis) ∷ Ok (Some Transmit) ∷ received (rx_mode_of rx_code 0)
    ∷ Ok (Some ChannelActivityDetection) ∷ Ok None ∷ []

unfoldable pub mode_of : ℕ → ℕ → Result (Option RadioMode) RadioError
mode_of code rx_code = get_or (modes rx_code) code (Err InvalidConfiguration)

-- what the radio is doing in a mode, as interrupts see it
abbrev pub activity : RadioMode → Activity
activity Sleep = other
activity Standby = other
activity FrequencySynthesis = other
activity Transmit = transmitting
activity (Receive m) = receiving
activity ChannelActivityDetection = detecting
