-- The refusal that each fault of a depot's line gives (document 02, request [1]).
use Rattle.params.specs.declared.mod_params.RadioError.{RadioError}
use Rattle.params.specs.declared.mod_params.RadioError.TheVariants.{InvalidConfiguration, UnavailableSpreadingFactor, InvalidSF6ExplicitHeaderRequest, BadLine}
use Rattle.params.specs.declared.line_faults.LineFault.{LineFault}
use Rattle.params.specs.declared.line_faults.LineFault.TheVariants.{Form, Open, Late, Id, Preamble, Length, SpreadingFactor, Bandwidth, CodingRate, Header, Crc, Sf5, Sf6Explicit}

-- 28 the form, the line's end, a line after the 50,000th, a number out of its range; 8 a code; 14 SF5; 17 SF6 with an explicit header
abbrev pub error_of : LineFault → RadioError
error_of (Form field) = BadLine
error_of Open = BadLine
error_of Late = BadLine
error_of Id = BadLine
error_of Preamble = BadLine
error_of Length = BadLine
error_of SpreadingFactor = InvalidConfiguration
error_of Bandwidth = InvalidConfiguration
error_of CodingRate = InvalidConfiguration
error_of Header = InvalidConfiguration
error_of Crc = InvalidConfiguration
error_of Sf5 = UnavailableSpreadingFactor
error_of Sf6Explicit = InvalidSF6ExplicitHeaderRequest
