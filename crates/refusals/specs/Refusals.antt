-- What an argument is refused by, and what refuses a link: document 01's table, "Numbers returned".
use Rattle.std.specs.Prelude.{Bool, true, false, not, ◌&&◌, List, [], ◌∷◌, ℕ, eqb, leb, ltb, Ok, Err}
use Rattle.sheets.specs.declared.Variant.{Variant}
use Rattle.sheets.specs.declared.Variant.TheVariants.{Sx1272, Sx1276}
use Rattle.sheets.specs.Frequency.{frf_limit}
use Rattle.sheets.specs.Modem.{has_bandwidth, lowest_band_end}
use Rattle.params.specs.declared.mod_params.RadioError.{RadioError}
use Rattle.params.specs.declared.mod_params.RadioError.TheVariants as error
use Rattle.params.specs.declared.mod_params.Link.{Link}
use Rattle.params.specs.Errors.{Verdict, or}

abbrev pub unless : Bool → RadioError → Verdict
unless true e = Ok tt
unless false e = Err e

-- ---- 8: a code that names no case

abbrev pub named : ℕ → ℕ → ℕ → Verdict
named first last code = unless (leb first code && leb code last) error.InvalidConfiguration

abbrev pub spreading_factor : ℕ → Verdict
spreading_factor = named 5 12

-- in `Bandwidth` order, on either variant
abbrev pub bandwidth : ℕ → Verdict
bandwidth = named 0 9

abbrev pub coding_rate : ℕ → Verdict
coding_rate = named 1 4

abbrev pub flag : ℕ → Verdict
flag = named 0 1

-- ---- 11 to 25

abbrev pub base_addresses : ℕ → ℕ → Verdict
base_addresses tx rx = unless (leb tx 255 && leb rx 255) (error.InvalidBaseAddress tx rx)

abbrev pub payload_length : ℕ → Verdict
payload_length n = unless (leb n 255) (error.PayloadSizeUnexpected n)

abbrev pub spreading_factor_value : ℕ → Verdict
spreading_factor_value sf = unless (not (eqb sf 5)) error.UnavailableSpreadingFactor

abbrev pub bandwidth_value : Variant → ℕ → Verdict
bandwidth_value v bw = unless (has_bandwidth v bw) error.UnavailableBandwidth

-- 250 and 500 kHz are 8 and 9
abbrev pub bandwidth_for_frequency : ℕ → ℕ → Verdict
bandwidth_for_frequency bw hz = unless (not (leb 8 bw && (leb bw 9 && ltb hz lowest_band_end))) error.InvalidBandwidthForFrequency

abbrev pub header_for_spreading_factor : ℕ → ℕ → Verdict
header_for_spreading_factor sf implicit = unless (not (eqb sf 6 && eqb implicit 0)) error.InvalidSF6ExplicitHeaderRequest

abbrev pub frequency_range : ℕ → Verdict
frequency_range hz = unless (ltb hz frf_limit) error.FrequencyOutOfRange

abbrev pub carrier : Variant → Verdict
carrier Sx1272 = Err error.CarrierUnsupported
carrier Sx1276 = Ok tt

-- ---- a link, and the parts of it that the `create_` calls judge

-- the first refusal of a row, which stands in the order of the numbers
abbrev pub first : List Verdict → Verdict
first [] = Ok tt
first (v ∷ vs) = or v (first vs)

abbrev pub link_verdicts : Variant → Link → List Verdict
link_verdicts v l =
    flag l.public_network
    ∷ spreading_factor l.spreading_factor
    ∷ bandwidth l.bandwidth
    ∷ coding_rate l.coding_rate
    ∷ flag l.implicit_header
    ∷ flag l.crc_on
    ∷ flag l.iq_inverted
    ∷ spreading_factor_value l.spreading_factor
    ∷ bandwidth_value v l.bandwidth
    ∷ bandwidth_for_frequency l.bandwidth l.frequency.0
    ∷ header_for_spreading_factor l.spreading_factor l.implicit_header
    ∷ frequency_range l.frequency.0
    ∷ []

unfoldable pub link_refusal : Variant → Link → Verdict
link_refusal v l = first (link_verdicts v l)
