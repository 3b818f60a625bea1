-- The errors' names, and an error by its number and name.
use Rattle.std.specs.Prelude.{List, ◌++◌, ℕ}
use Rattle.params.specs.declared.mod_params.RadioError.{RadioError}
use Rattle.params.specs.declared.mod_params.RadioError.TheVariants.{SPI, Reset, RfSwitchRx, RfSwitchTx, Busy, Irq, DIO1, InvalidConfiguration, InvalidRadioMode, OpError, InvalidBaseAddress, PayloadSizeUnexpected, PayloadSizeMismatch, UnavailableSpreadingFactor, UnavailableBandwidth, InvalidBandwidthForFrequency, InvalidSF6ExplicitHeaderRequest, InvalidOutputPowerForFrequency, TransmitTimeout, ReceiveTimeout, DutyCycleUnsupported, RngUnsupported, FrequencyOutOfRange, LogFull, CarrierUnsupported, BadImage, NotALink, BadLine, BadHex, BadSum, WrongPlace, Incomplete, TextFull}
use Rattle.params.specs.Errors.{number_of}
use Rattle.text.specs.Words.{ascii}
use Rattle.text.specs.Numbers.{decimal}

abbrev pub name_of : RadioError → List ℕ
name_of SPI = ascii "SPI"
name_of Reset = ascii "Reset"
name_of RfSwitchRx = ascii "RfSwitchRx"
name_of RfSwitchTx = ascii "RfSwitchTx"
name_of Busy = ascii "Busy"
name_of Irq = ascii "Irq"
name_of DIO1 = ascii "DIO1"
name_of InvalidConfiguration = ascii "InvalidConfiguration"
name_of InvalidRadioMode = ascii "InvalidRadioMode"
name_of (OpError code) = ascii "OpError"
name_of (InvalidBaseAddress tx rx) = ascii "InvalidBaseAddress"
name_of (PayloadSizeUnexpected n) = ascii "PayloadSizeUnexpected"
name_of (PayloadSizeMismatch n room) = ascii "PayloadSizeMismatch"
name_of UnavailableSpreadingFactor = ascii "UnavailableSpreadingFactor"
name_of UnavailableBandwidth = ascii "UnavailableBandwidth"
name_of InvalidBandwidthForFrequency = ascii "InvalidBandwidthForFrequency"
name_of InvalidSF6ExplicitHeaderRequest = ascii "InvalidSF6ExplicitHeaderRequest"
name_of InvalidOutputPowerForFrequency = ascii "InvalidOutputPowerForFrequency"
name_of TransmitTimeout = ascii "TransmitTimeout"
name_of ReceiveTimeout = ascii "ReceiveTimeout"
name_of DutyCycleUnsupported = ascii "DutyCycleUnsupported"
name_of RngUnsupported = ascii "RngUnsupported"
name_of FrequencyOutOfRange = ascii "FrequencyOutOfRange"
name_of LogFull = ascii "LogFull"
name_of CarrierUnsupported = ascii "CarrierUnsupported"
name_of BadImage = ascii "BadImage"
name_of NotALink = ascii "NotALink"
name_of BadLine = ascii "BadLine"
name_of BadHex = ascii "BadHex"
name_of BadSum = ascii "BadSum"
name_of WrongPlace = ascii "WrongPlace"
name_of Incomplete = ascii "Incomplete"
name_of TextFull = ascii "TextFull"

abbrev pub error_text : RadioError → List ℕ
error_text e = decimal (number_of e) ++ (ascii " " ++ (name_of e ++ ascii ": "))
