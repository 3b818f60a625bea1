-- Links: which of them a board accepts, and the one that stands for all that leave the same image.
use Rattle.std.specs.Prelude.{Bool, true, false, ◌&&◌, ℕ, T, ltb, ℤ, Ok, Err}
use Rattle.sheets.specs.declared.Variant.{Variant}
use Rattle.sheets.specs.Frequency.{steps, lowest}
use Rattle.sheets.specs.Power.{clamped}
use Rattle.params.specs.declared.mod_params.Link.{Link}
use Rattle.params.specs.declared.board.Board.{Board}
use Rattle.refusals.specs.Refusals.{link_refusal}
use Rattle.params.specs.Errors.{Verdict}

abbrev pub link : (public sf bw cr hz preamble implicit crc iq : ℕ) → ℤ → Link
link public sf bw cr hz preamble implicit crc iq power = record {
  public_network = public;
  spreading_factor = sf;
  bandwidth = bw;
  coding_rate = cr;
  frequency = record { 0 = hz };
  preamble_length = preamble;
  implicit_header = implicit;
  crc_on = crc;
  iq_inverted = iq;
  power = power;
}

abbrev pub clear : Verdict → Bool
clear (Ok tt) = true
clear (Err e) = false

-- none of 8, 14 to 17 and 23 refuses the link, whose preamble is a number of 16 bits, as every call takes it
unfoldable pub accepted : Variant → Link → Bool
accepted v l = clear (link_refusal v l) && ltb l.preamble_length 65536

abbrev pub Accepted : Board → Link → Type 0
Accepted b l = T (accepted b.variant l)

-- the same link at the lowest frequency of its step and the clamped power
abbrev pub plain : Variant → Bool → Link → Link
plain v boost l =
    link l.public_network l.spreading_factor l.bandwidth l.coding_rate (lowest (steps l.frequency.0)) l.preamble_length
    l.implicit_header l.crc_on l.iq_inverted (clamped v boost l.power)
