-- What is wrong with a text of records: one walk, in which the first bad record decides, and what is missing comes last.
use Rattle.std.specs.Prelude.{Bool, true, false, cond, ◌&&◌, not, List, [], ◌∷◌, ℕ, zero, suc, eqb, leb, ltb, length, ⊤, Result, Ok, Err}
use Rattle.text.specs.Fields.{parts}
use Rattle.params.specs.declared.hex_faults.HexFault.{HexFault}
use Rattle.params.specs.declared.hex_faults.HexFault.TheVariants.{Open, Form, Count, Kind, EndHolds, After, Sum, Outside, Twice, NoEnd, Unset}
use Rattle.intel_hex.specs.Record.{Record, lf, end_kind, address, right_sum, is_digit_line, bytes_of, is_counted, record_in}
use Rattle.intel_hex.specs.Places.{set_by}

abbrev pub Judged : Type 0
Judged = Result ⊤ HexFault

-- the judgement of what is left, where this is right
abbrev pub unless : Bool → HexFault → Judged → Judged
unless right f next = cond right next (Err f)

abbrev pub otherwise : Judged → Judged → Judged
otherwise (Ok tt) next = next
otherwise (Err f) next = Err f

-- ---- one record, behind others; `last` where no text follows its line

abbrev pub form_fault : List ℕ → Judged
form_fault line = unless (is_digit_line line) Form (unless (is_counted (bytes_of line)) Count (Ok tt))

abbrev pub is_end : Record → Bool
is_end r = eqb r.kind end_kind

-- an end record has no bytes and no address, and no text behind it
abbrev pub end_fault : ℕ → ℕ → Bool → Judged
end_fault count address last = unless (eqb count 0 && eqb address 0) EndHolds (unless last After (Ok tt))

abbrev pub kind_fault : Bool → Record → Judged
kind_fault last r =
    unless (leb r.kind end_kind) (Kind r.kind) (cond (is_end r) (end_fault (length r.bytes) (address r) last) (Ok tt))

abbrev pub sum_fault : Record → Judged
sum_fault r = unless (eqb r.sum (right_sum r)) (Sum (right_sum r)) (Ok tt)

-- its bytes stand from a on
abbrev pub place_fault : List Record → ℕ → List ℕ → Judged
place_fault earlier a [] = Ok tt
place_fault earlier a (b ∷ bs) =
    unless (ltb a 128) (Outside a) (unless (not (set_by earlier a)) (Twice a) (place_fault earlier (suc a) bs))

-- an end record sets nothing
abbrev pub record_fault : List Record → Bool → Record → Judged
record_fault earlier last r =
    otherwise (otherwise (kind_fault last r) (sum_fault r)) (cond (is_end r) (Ok tt) (place_fault earlier (address r) r.bytes))

abbrev pub line_fault : List Record → Bool → List ℕ → Judged
line_fault earlier last line = otherwise (form_fault line) (record_fault earlier last (record_in line))

-- ---- a text: its data records, or the first fault with its line

pub data Outcome : Type 0 where
  Records : List Record → Outcome
  Bad : HexFault → ℕ → Outcome

abbrev pub or_bad : ℕ → Judged → Outcome → Outcome
or_bad n (Ok tt) next = next
or_bad n (Err f) next = Bad f n

-- of n addresses from a on the first that is not set
abbrev pub unset_fault : List Record → ℕ → ℕ → Judged
unset_fault rs a zero = Ok tt
unset_fault rs a (suc n) = unless (set_by rs a) (Unset a) (unset_fault rs (suc a) n)

unfoldable pub incomplete : List Record → Judged
incomplete rs = unset_fault rs 0 128

-- what stands behind the last LF: nothing, or a line that is not ended
abbrev pub rest_fault : List ℕ → HexFault
rest_fault [] = NoEnd
rest_fault (b ∷ rest) = Open

-- no text follows
abbrev pub nothing : List (List ℕ) → Bool
nothing [] = true
nothing ([] ∷ []) = true
nothing ([] ∷ m ∷ ls) = false
nothing ((b ∷ l) ∷ ls) = false

-- from line n on, behind data records of which the last comes first
abbrev pub outcome_from : ℕ → List Record → List (List ℕ) → Outcome
outcome_from n earlier [] = Bad NoEnd n
outcome_from n earlier (rest ∷ []) = Bad (rest_fault rest) n
outcome_from n earlier (line ∷ m ∷ ls) =
    or_bad n (line_fault earlier (nothing (m ∷ ls)) line)
    (cond (is_end (record_in line)) (or_bad n (incomplete earlier) (Records earlier)) (outcome_from (suc n) (record_in line ∷ earlier) (m ∷ ls)))

unfoldable pub outcome : List ℕ → Outcome
outcome text = outcome_from 1 [] (parts lf text)
