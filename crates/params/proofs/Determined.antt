-- What an answer tells determines it: each kind of answer can be had back from its number and its values.
-- Assumes nothing.
use mathlib.Core.Path.{◌≡◌, refl, sym, ap, ◌∙◌}
use mathlib.Core.Bool.{Bool, true, false, cond}
use mathlib.Core.List.{List, [], ◌∷◌}
use Prim.Native.Nat.{ℕ, ◌-◌}
use lib.Dec.{eqb}
use lib.ListN.{get_or}
use lib.IntN.{ℤ, pos, nat_abs}
use Rattle.params.specs.declared.mod_params.RadioError.{RadioError}
use Rattle.params.specs.declared.mod_params.RadioError.TheVariants.{SPI, Reset, RfSwitchRx, RfSwitchTx, Busy, Irq, DIO1, InvalidConfiguration, InvalidRadioMode, OpError, InvalidBaseAddress, PayloadSizeUnexpected, PayloadSizeMismatch, UnavailableSpreadingFactor, UnavailableBandwidth, InvalidBandwidthForFrequency, InvalidSF6ExplicitHeaderRequest, InvalidOutputPowerForFrequency, TransmitTimeout, ReceiveTimeout, DutyCycleUnsupported, RngUnsupported, FrequencyOutOfRange, LogFull, CarrierUnsupported, BadImage, NotALink, BadLine, BadHex, BadSum, WrongPlace, Incomplete, TextFull}
use Rattle.std.specs.Prelude.{⊤, Option, Some, None, Result, Ok, Err}
use Rattle.params.specs.declared.units.Hertz.{Hertz}
use Rattle.params.specs.declared.mod_params.ModulationParams.{ModulationParams}
use Rattle.params.specs.declared.mod_params.PacketParams.{PacketParams}
use Rattle.params.specs.declared.mod_params.PacketStatus.{PacketStatus}
use Rattle.params.specs.declared.mod_params.Link.{Link}
use Rattle.params.specs.declared.answers.IrqState.{IrqState}
use Rattle.params.specs.declared.answers.IrqState.TheVariants.{PreambleReceived, Done, CadDone}
use Rattle.params.specs.Errors.{Told, number_of, values_of, Verdict}
use Rattle.params.specs.Answers.{modulation_values, packet_values, link_values, event_values, tells, tells_done, tells_payload, tells_status, tells_irq, tells_modulation, tells_packet, tells_link}

-- ---- errors

abbrev signed : ℕ → List ℤ → ℤ
signed i vs = get_or vs i (pos 0)

abbrev value : ℕ → List ℤ → ℕ
value i vs = nat_abs (signed i vs)

-- 41 stands behind the list
abbrev error_of : ℕ → List ℤ → RadioError
error_of n vs =
    get_or
    (SPI
    ∷ Reset
    ∷ RfSwitchRx
    ∷ RfSwitchTx
    ∷ Busy
    ∷ Irq
    ∷ DIO1
    ∷ InvalidConfiguration
    ∷ InvalidRadioMode
    ∷ OpError (value 0 vs)
    ∷ InvalidBaseAddress (value 0 vs) (value 1 vs)
    ∷ PayloadSizeUnexpected (value 0 vs)
    ∷ PayloadSizeMismatch (value 0 vs) (value 1 vs)
    ∷ UnavailableSpreadingFactor
    ∷ UnavailableBandwidth
    ∷ InvalidBandwidthForFrequency
    ∷ InvalidSF6ExplicitHeaderRequest
    ∷ InvalidOutputPowerForFrequency
    ∷ TransmitTimeout
    ∷ ReceiveTimeout
    ∷ DutyCycleUnsupported
    ∷ RngUnsupported
    ∷ FrequencyOutOfRange
    ∷ LogFull
    ∷ CarrierUnsupported
    ∷ BadImage
    ∷ NotALink
    ∷ BadLine
    ∷ BadHex
    ∷ BadSum
    ∷ WrongPlace
    ∷ Incomplete ∷ [])
    (n - 1) TextFull

-- an error is had back from what it tells, and its number is not 0
error_back : (e : RadioError) → (error_of (number_of e) (values_of e) ≡ e) × (eqb (number_of e) 0 ≡ false)
error_back SPI = (refl, refl)
error_back Reset = (refl, refl)
error_back RfSwitchRx = (refl, refl)
error_back RfSwitchTx = (refl, refl)
error_back Busy = (refl, refl)
error_back Irq = (refl, refl)
error_back DIO1 = (refl, refl)
error_back InvalidConfiguration = (refl, refl)
error_back InvalidRadioMode = (refl, refl)
error_back (OpError code) = (refl, refl)
error_back (InvalidBaseAddress tx rx) = (refl, refl)
error_back (PayloadSizeUnexpected size) = (refl, refl)
error_back (PayloadSizeMismatch size room) = (refl, refl)
error_back UnavailableSpreadingFactor = (refl, refl)
error_back UnavailableBandwidth = (refl, refl)
error_back InvalidBandwidthForFrequency = (refl, refl)
error_back InvalidSF6ExplicitHeaderRequest = (refl, refl)
error_back InvalidOutputPowerForFrequency = (refl, refl)
error_back TransmitTimeout = (refl, refl)
error_back ReceiveTimeout = (refl, refl)
error_back DutyCycleUnsupported = (refl, refl)
error_back RngUnsupported = (refl, refl)
error_back FrequencyOutOfRange = (refl, refl)
error_back LogFull = (refl, refl)
error_back CarrierUnsupported = (refl, refl)
error_back BadImage = (refl, refl)
error_back NotALink = (refl, refl)
error_back BadLine = (refl, refl)
error_back BadHex = (refl, refl)
error_back BadSum = (refl, refl)
error_back WrongPlace = (refl, refl)
error_back Incomplete = (refl, refl)
error_back TextFull = (refl, refl)

-- ---- answers

-- what is answered where the number is 0, else the refusal
abbrev answer_of : {T : Type 0} → (List ℤ → T) → Told → Result T RadioError
answer_of back t = cond (eqb t.number 0) (Ok (back t.values)) (Err (error_of t.number t.values))

module _ {T : Type 0} (values : T → List ℤ) (back : List ℤ → T) (undone : (x : T) → back (values x) ≡ x) where
  answer_back : (a : Result T RadioError) → answer_of back (tells values a) ≡ a
  answer_back (Ok x) = ap Ok (undone x)
  answer_back (Err e) = rw ((error_back e).1, (error_back e).0)

  -- a function that can be undone takes equal values at equal arguments alone
  pub determined : (a b : Result T RadioError) → tells values a ≡ tells values b → a ≡ b
  determined a b t = sym (answer_back a) ∙ ap (answer_of back) t ∙ answer_back b

pub answer_determined : (a b : Verdict) → tells_done a ≡ tells_done b → a ≡ b
answer_determined = determined (λ done. []) (λ vs. tt) (λ done. refl)

pub payload_determined : (a b : Result ℕ RadioError) → tells_payload a ≡ tells_payload b → a ≡ b
payload_determined = determined (λ size. pos size ∷ []) (value 0) (λ size. refl)

pub status_determined : (a b : Result PacketStatus RadioError) → tells_status a ≡ tells_status b → a ≡ b
status_determined =
    determined (λ s. s.rssi ∷ s.snr ∷ []) (λ vs. record { rssi = signed 0 vs; snr = signed 1 vs }) (λ s. refl)

-- ---- events

-- a second value tells a channel check from anything else that is done
abbrev checked : List ℤ → Option IrqState
checked (v ∷ w ∷ vs) = Some (CadDone (eqb (nat_abs w) 1))
checked (v ∷ []) = Some Done
checked [] = Some Done

abbrev event_of : List ℤ → Option IrqState
event_of vs = get_or (None ∷ Some PreambleReceived ∷ []) (value 0 vs) (checked vs)

event_back : (s : Option IrqState) → event_of (event_values s) ≡ s
event_back None = refl
event_back (Some PreambleReceived) = refl
event_back (Some Done) = refl
event_back (Some (CadDone true)) = refl
event_back (Some (CadDone false)) = refl

pub irq_determined : (a b : Result (Option IrqState) RadioError) → tells_irq a ≡ tells_irq b → a ≡ b
irq_determined = determined event_values event_of event_back

-- ---- records

abbrev hertz : ℕ → Hertz
hertz n = record { 0 = n }

abbrev modulation_of : List ℤ → ModulationParams
modulation_of vs =
    record {
      spreading_factor = value 0 vs;
      bandwidth = value 1 vs;
      coding_rate = value 2 vs;
      low_data_rate_optimize = value 3 vs;
      frequency = hertz (value 4 vs);
    }

pub modulation_determined : (a b : Result ModulationParams RadioError) → tells_modulation a ≡ tells_modulation b → a ≡ b
modulation_determined = determined modulation_values modulation_of (λ m. refl)

abbrev packet_of : List ℤ → PacketParams
packet_of vs =
    record {
      preamble_length = value 0 vs;
      implicit_header = value 1 vs;
      payload_length = value 2 vs;
      crc_on = value 3 vs;
      iq_inverted = value 4 vs;
    }

pub packet_determined : (a b : Result PacketParams RadioError) → tells_packet a ≡ tells_packet b → a ≡ b
packet_determined = determined packet_values packet_of (λ p. refl)

abbrev link_of : List ℤ → Link
link_of vs =
    record {
      public_network = value 0 vs;
      spreading_factor = value 1 vs;
      bandwidth = value 2 vs;
      coding_rate = value 3 vs;
      frequency = hertz (value 4 vs);
      preamble_length = value 5 vs;
      implicit_header = value 6 vs;
      crc_on = value 7 vs;
      iq_inverted = value 8 vs;
      power = signed 9 vs;
    }

pub link_determined : (a b : Result Link RadioError) → tells_link a ≡ tells_link b → a ≡ b
link_determined = determined link_values link_of (λ l. refl)
