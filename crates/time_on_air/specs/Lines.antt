-- A depot's file (document 02, request [1]): a text of lines, a line of eight numbers.
use Rattle.std.specs.Prelude.{Bool, ◌&&◌, ◌||◌, not, List, [], ◌∷◌, ℕ, zero, suc, eqb, length, get_or, Ok, Err}
use Rattle.text.specs.Fields.{parts}
use Rattle.text.specs.Decimal.{digits, value_from}
use Rattle.params.specs.declared.line_faults.LineFault.TheVariants.{Form}
use Rattle.time_on_air.specs.declared.packet.Packet.{Packet}
use Rattle.time_on_air.specs.Packet.{Judged, unless, packet_fault}

abbrev pub tab : ℕ
tab = 9

abbrev pub lf : ℕ
lf = 10

-- ---- numbers: digits alone, at least one, and a 0 stands by itself

unfoldable pub is_number : List ℕ → Bool
is_number s = digits s && (not (eqb (get_or s 0 0) 48) || eqb (length s) 1)

abbrev pub numbers : List (List ℕ) → List ℕ
numbers [] = []
numbers (f ∷ fs) = value_from f 0 ∷ numbers fs

-- the first field, of n from number k on, that is missing or no number; behind them there is none
abbrev pub form_fault : ℕ → ℕ → List (List ℕ) → Judged
form_fault k zero [] = Ok tt
form_fault k zero (f ∷ fs) = Err (Form k)
form_fault k (suc n) [] = Err (Form k)
form_fault k (suc n) (f ∷ fs) = unless (is_number f) (Form k) (form_fault (suc k) n fs)

-- ---- a line: its form comes before what its numbers are

abbrev pub packet_of : List ℕ → Packet
packet_of ns =
    record {
      id = get_or ns 0 0;
      spreading_factor = get_or ns 1 0;
      bandwidth = get_or ns 2 0;
      coding_rate = get_or ns 3 0;
      preamble = get_or ns 4 0;
      length = get_or ns 5 0;
      implicit_header = get_or ns 6 0;
      crc_on = get_or ns 7 0;
    }

abbrev pub packet_in : List ℕ → Packet
packet_in line = packet_of (numbers (parts tab line))

abbrev pub otherwise : Judged → Judged → Judged
otherwise (Ok tt) next = next
otherwise (Err f) next = Err f

unfoldable pub line_fault : List ℕ → Judged
line_fault line = otherwise (form_fault 0 8 (parts tab line)) (packet_fault (packet_in line))
