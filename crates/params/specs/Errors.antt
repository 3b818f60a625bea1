-- Document 01's and 02's number and values for each error, and which of two verdicts comes first.
use Rattle.std.specs.Prelude.{List, [], ◌∷◌, ℕ, ℤ, pos, ⊤, Result, Ok, Err}
use Rattle.params.specs.declared.mod_params.RadioError.{RadioError}
use Rattle.params.specs.declared.mod_params.RadioError.TheVariants.{SPI, Reset, RfSwitchRx, RfSwitchTx, Busy, Irq, DIO1, InvalidConfiguration, InvalidRadioMode, OpError, InvalidBaseAddress, PayloadSizeUnexpected, PayloadSizeMismatch, UnavailableSpreadingFactor, UnavailableBandwidth, InvalidBandwidthForFrequency, InvalidSF6ExplicitHeaderRequest, InvalidOutputPowerForFrequency, TransmitTimeout, ReceiveTimeout, DutyCycleUnsupported, RngUnsupported, FrequencyOutOfRange, LogFull, CarrierUnsupported, BadImage, NotALink, BadLine, BadHex, BadSum, WrongPlace, Incomplete, TextFull}

-- An answer as document 01 has it: 0, or the refusal's number, and the values that go with it.
pub record Told : Type 0 where
  pub number : ℕ
  pub values : List ℤ

abbrev pub told : ℕ → List ℤ → Told
told n vs = record { number = n; values = vs }

-- values that are never below zero
abbrev pub plain : List ℕ → List ℤ
plain [] = []
plain (n ∷ ns) = pos n ∷ plain ns

abbrev pub number_of : RadioError → ℕ
number_of SPI = 1
number_of Reset = 2
number_of RfSwitchRx = 3
number_of RfSwitchTx = 4
number_of Busy = 5
number_of Irq = 6
number_of DIO1 = 7
number_of InvalidConfiguration = 8
number_of InvalidRadioMode = 9
number_of (OpError code) = 10
number_of (InvalidBaseAddress tx rx) = 11
number_of (PayloadSizeUnexpected size) = 12
number_of (PayloadSizeMismatch size room) = 13
number_of UnavailableSpreadingFactor = 14
number_of UnavailableBandwidth = 15
number_of InvalidBandwidthForFrequency = 16
number_of InvalidSF6ExplicitHeaderRequest = 17
number_of InvalidOutputPowerForFrequency = 18
number_of TransmitTimeout = 19
number_of ReceiveTimeout = 20
number_of DutyCycleUnsupported = 21
number_of RngUnsupported = 22
number_of FrequencyOutOfRange = 23
number_of LogFull = 24
number_of CarrierUnsupported = 25
number_of BadImage = 26
number_of NotALink = 27
number_of BadLine = 28
number_of BadHex = 29
number_of BadSum = 30
number_of WrongPlace = 31
number_of Incomplete = 32
number_of TextFull = 41

-- 10 its code, 11 both bases, 12 the length, 13 the packet's bytes and the buffer's; the others none
abbrev pub values_of : RadioError → List ℤ
values_of SPI = []
values_of Reset = []
values_of RfSwitchRx = []
values_of RfSwitchTx = []
values_of Busy = []
values_of Irq = []
values_of DIO1 = []
values_of InvalidConfiguration = []
values_of InvalidRadioMode = []
values_of (OpError code) = pos code ∷ []
values_of (InvalidBaseAddress tx rx) = pos tx ∷ pos rx ∷ []
values_of (PayloadSizeUnexpected size) = pos size ∷ []
values_of (PayloadSizeMismatch size room) = pos size ∷ pos room ∷ []
values_of UnavailableSpreadingFactor = []
values_of UnavailableBandwidth = []
values_of InvalidBandwidthForFrequency = []
values_of InvalidSF6ExplicitHeaderRequest = []
values_of InvalidOutputPowerForFrequency = []
values_of TransmitTimeout = []
values_of ReceiveTimeout = []
values_of DutyCycleUnsupported = []
values_of RngUnsupported = []
values_of FrequencyOutOfRange = []
values_of LogFull = []
values_of CarrierUnsupported = []
values_of BadImage = []
values_of NotALink = []
values_of BadLine = []
values_of BadHex = []
values_of BadSum = []
values_of WrongPlace = []
values_of Incomplete = []
values_of TextFull = []

abbrev pub refusal : RadioError → Told
refusal e = told (number_of e) (values_of e)

-- Whether a call goes on.
abbrev pub Verdict : Type 0
Verdict = Result ⊤ RadioError

-- the first of two verdicts that refuses
abbrev pub or : Verdict → Verdict → Verdict
or (Ok tt) next = next
or (Err e) next = Err e
