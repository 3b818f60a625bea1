-- The refusal that each fault of a text of Intel HEX gives (document 02, request [3]).
use Rattle.params.specs.declared.mod_params.RadioError.{RadioError}
use Rattle.params.specs.declared.mod_params.RadioError.TheVariants.{BadHex, BadSum, WrongPlace, Incomplete}
use Rattle.params.specs.declared.answers.HexError.{HexError}
use Rattle.params.specs.declared.answers.HexError.TheVariants.{Bad, Refused}
use Rattle.params.specs.declared.hex_faults.HexFault.{HexFault}
use Rattle.params.specs.declared.hex_faults.HexFault.TheVariants.{Open, Form, Count, Kind, EndHolds, After, Sum, Outside, Twice, NoEnd, Unset}

-- 29 the form, another record type, an end record with bytes or an address, text after it; 30 the sum; 31 a byte's address, outside or
-- set twice; 32 no end record, an address not set
abbrev pub hex_error_of : HexFault → RadioError
hex_error_of Open = BadHex
hex_error_of Form = BadHex
hex_error_of Count = BadHex
hex_error_of (Kind k) = BadHex
hex_error_of EndHolds = BadHex
hex_error_of After = BadHex
hex_error_of (Sum right) = BadSum
hex_error_of (Outside address) = WrongPlace
hex_error_of (Twice address) = WrongPlace
hex_error_of NoEnd = Incomplete
hex_error_of (Unset address) = Incomplete

-- why an image is not read: which record is bad is for people
abbrev pub refusal_of : HexError → RadioError
refusal_of (Bad f line) = hex_error_of f
refusal_of (Refused e) = e
