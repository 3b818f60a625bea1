-- A packet's eight numbers, and which of them are refused (document 02, request [1]): first what is out of its range, then a code
-- that names no case, then what the sheets do not have.
use Rattle.std.specs.Prelude.{Bool, cond, ◌&&◌, not, ℕ, ◌≤◌, eqb, leb, ⊤, Result, Ok, Err}
use Rattle.params.specs.declared.line_faults.LineFault.{LineFault}
use Rattle.params.specs.declared.line_faults.LineFault.TheVariants.{Id, Preamble, Length, SpreadingFactor, Bandwidth, CodingRate, Header, Crc, Sf5, Sf6Explicit}
use Rattle.time_on_air.specs.declared.packet.Packet.{Packet}

abbrev pub Judged : Type 0
Judged = Result ⊤ LineFault

-- the judgement of what is left, where this is right
abbrev pub unless : Bool → LineFault → Judged → Judged
unless right f next = cond right next (Err f)

-- SF5, which the radios do not have, and SF6, which they have with an implicit header alone
unfoldable pub sheet_fault : ℕ → ℕ → Judged
sheet_fault sf implicit =
    unless (not (eqb sf 5)) Sf5 (unless (not (eqb sf 6 && eqb implicit 0)) Sf6Explicit (Ok tt))

unfoldable pub flag_fault : ℕ → ℕ → ℕ → Judged
flag_fault sf implicit crc = unless (leb implicit 1) Header (unless (leb crc 1) Crc (sheet_fault sf implicit))

unfoldable pub code_fault : ℕ → ℕ → ℕ → ℕ → ℕ → Judged
code_fault sf bw cr implicit crc =
    unless (leb 5 sf) SpreadingFactor
    (unless (leb sf 12) SpreadingFactor
    (unless (leb bw 9) Bandwidth
    (unless (leb 1 cr) CodingRate (unless (leb cr 4) CodingRate (flag_fault sf implicit crc)))))

unfoldable pub packet_fault : Packet → Judged
packet_fault p =
    unless (leb p.id 4294967295) Id
    (unless (leb p.preamble 65535) Preamble
    (unless (leb p.length 255) Length
    (code_fault p.spreading_factor p.bandwidth p.coding_rate p.implicit_header p.crc_on)))

-- what an accepted packet's numbers are known to be
pub record Counts (p : Packet) : Type 0 where
  pub id : p.id ≤ 4294967295
  pub sf_low : 6 ≤ p.spreading_factor
  pub sf_high : p.spreading_factor ≤ 12
  pub bandwidth : p.bandwidth ≤ 9
  pub coding_low : 1 ≤ p.coding_rate
  pub coding : p.coding_rate ≤ 4
  pub preamble : p.preamble ≤ 65535
  pub size : p.length ≤ 255
  pub header : p.implicit_header ≤ 1
  pub crc : p.crc_on ≤ 1
