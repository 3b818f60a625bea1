-- What refuses a link, in two parts: codes that name no case, and what a board has not.
use Rattle.sheets.specs.declared.Variant.{Variant}
use Rattle.params.specs.declared.mod_params.Link.{Link}
use Rattle.params.specs.Errors.{Verdict, or}
use Rattle.refusals.specs.Refusals.{flag, bandwidth_for_frequency, header_for_spreading_factor, frequency_range}
use Rattle.operations.specs.Modem.{modulation_named, modulation_had, packet_named}

-- 8
abbrev pub link_named : Link → Verdict
link_named l =
    or (flag l.public_network)
    (or (modulation_named l.spreading_factor l.bandwidth l.coding_rate) (packet_named l.implicit_header l.crc_on l.iq_inverted))

-- 14, 15, 16, 17, 23
abbrev pub link_had : Variant → Link → Verdict
link_had v l =
    or (modulation_had v l.spreading_factor l.bandwidth)
    (or (bandwidth_for_frequency l.bandwidth l.frequency.0)
    (or (header_for_spreading_factor l.spreading_factor l.implicit_header) (frequency_range l.frequency.0)))
