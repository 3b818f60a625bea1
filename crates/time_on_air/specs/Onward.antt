-- What a reading comes to: the outcome where these bytes follow those that were read, and then the end. From the start it is the
-- report's (proofs/Whole.antt); it says what a reading stands for, so that a file can be read piece after piece.
use Rattle.std.specs.Prelude.{◌≡◌, Bool, true, false, cond, ◌&&◌, not, List, [], ◌∷◌, ◌++◌, ℕ, zero, suc, ◌+◌, ◌*◌, ◌-◌, min, eqb, ltb, get_or, set, ⊤, Result, Ok, Err}
use Rattle.text.specs.Decimal.{is_digit}
use Rattle.params.specs.declared.answers.BadLine.{BadLine}
use Rattle.params.specs.declared.line_faults.LineFault.{LineFault}
use Rattle.params.specs.declared.line_faults.LineFault.TheVariants.{Form, Open, Late}
use Rattle.time_on_air.specs.declared.packet.Packet.{Packet}
use Rattle.time_on_air.specs.declared.reading.Reading.{Reading}
use Rattle.time_on_air.specs.declared.turns.Progress.{Progress}
use Rattle.time_on_air.specs.Packet.{Judged, packet_fault}
use Rattle.time_on_air.specs.Symbols.{quarter_chips}
use Rattle.text.specs.Fields.{parts}
use Rattle.time_on_air.specs.Lines.{tab, lf, packet_of}
use Rattle.time_on_air.specs.Report.{most_lines, microseconds, each, verdict, totals}

-- ---- an outcome: ten totals, or a fault and the line's number

pub data Outcome : Type 0 where
  sent : List ℕ → Outcome
  bad : LineFault → ℕ → Outcome

abbrev pub outcome_of : Result ⊤ BadLine → List ℕ → Outcome
outcome_of (Ok tt) ts = sent ts
outcome_of (Err b) ts = bad b.fault b.line

abbrev pub answer_of : Outcome → Result ⊤ BadLine
answer_of (sent ts) = Ok tt
answer_of (bad f n) = Err (record { fault = f; line = n })

abbrev pub left_by : Outcome → List ℕ → List ℕ
left_by (sent ts) old = ts
left_by (bad f n) old = old

pub record Ends (o : Outcome) (before : List ℕ) (answer : Result ⊤ BadLine) (after : List ℕ) : Type 0 where
  pub answers : answer ≡ answer_of o
  pub totalled : after ≡ left_by o before

-- ---- a number, held as one more than it is, and as 0 where nothing of it was read. Above 2^32, where every number is out of
-- range, digits count no more

abbrev pub more : ℕ → ℕ → ℕ
more zero b = suc (b - 48)
more (suc n) b = cond (ltb n 4294967296) (suc (n * 10 + (b - 48))) (suc n)

-- behind a 0 no digit stands
abbrev pub goes_on : ℕ → ℕ → Bool
goes_on held b = not (eqb held 1) && is_digit b

-- what the rest of a field makes of it; 0 where the field is no number
abbrev pub held_from : ℕ → List ℕ → ℕ
held_from held [] = held
held_from held (b ∷ f) = cond (goes_on held b) (held_from (more held b) f) 0

-- ---- a line: eight numbers, or the first field that is missing or no number

pub data Said : Type 0 where
  says : List ℕ → Said
  wrong : ℕ → Said

-- 8 is a field too many
abbrev pub missing : ℕ → ℕ
missing k = cond (ltb k 7) (suc k) 8

abbrev pub if_held : ℕ → Said → Said → Said
if_held zero said none = none
if_held (suc n) said none = said

-- the rest of a line's fields, the first of them the rest of field k
abbrev pub fields_from : List ℕ → ℕ → ℕ → List (List ℕ) → Said
fields_from ns k held [] = wrong k
fields_from ns k held (f ∷ []) =
    if_held (held_from held f) (cond (eqb k 7) (says (set ns 7 (held_from held f - 1))) (wrong (missing k))) (wrong k)
fields_from ns k held (f ∷ g ∷ fs) =
    if_held (held_from held f)
    (cond (ltb k 7) (fields_from (set ns k (held_from held f - 1)) (suc k) 0 (g ∷ fs)) (wrong 8)) (wrong k)

-- the rest of a line; one that is being skipped has a wrong field k already
abbrev pub line_from : Bool → List ℕ → ℕ → ℕ → List ℕ → Said
line_from true ns k held line = wrong k
line_from false ns k held line = fields_from ns k held (parts tab line)

abbrev pub said_fault : Said → Judged
said_fault (says ns) = packet_fault (packet_of ns)
said_fault (wrong k) = Err (Form k)

abbrev pub said_numbers : Said → List ℕ
said_numbers (says ns) = ns
said_numbers (wrong k) = []

-- ---- sums, in quarter chips. None of 50,000 packets is above this, 250,000 of which fit 64 bits

abbrev pub most_sum : ℕ
most_sum = 70000000000000

abbrev pub grown : ℕ → ℕ → ℕ
grown sum chips = cond (ltb sum most_sum) (sum + chips) sum

unfoldable pub added : List ℕ → Packet → List ℕ
added sums p = set sums p.bandwidth (grown (get_or sums p.bandwidth 0) (quarter_chips p))

abbrev pub summed : Judged → List ℕ → Packet → List ℕ
summed (Ok tt) sums p = added sums p
summed (Err f) sums p = sums

unfoldable pub rounded : List ℕ → List ℕ
rounded sums = each (λ bw. microseconds bw (min (get_or sums bw 0) most_sum))

-- ---- the rest of a file: its parts, the first of them the rest of a line

abbrev pub begun : Bool → ℕ → ℕ → List ℕ → Bool
begun false zero zero [] = false
begun false zero zero (b ∷ rest) = true
begun false zero (suc h) rest = true
begun false (suc k) held rest = true
begun true k held rest = true

abbrev pub late : Outcome
late = bad Late (suc most_lines)

-- a bad line behind so many lines
abbrev pub bad_line : LineFault → ℕ → Outcome
bad_line f lines = cond (ltb lines most_lines) (bad f (suc lines)) late

abbrev pub or_bad : ℕ → Judged → Outcome → Outcome
or_bad n (Ok tt) next = next
or_bad n (Err f) next = bad f n

abbrev pub onward : ℕ → List ℕ → Bool → List ℕ → ℕ → ℕ → List (List ℕ) → Outcome
onward lines sums skipping ns k held [] = late
onward lines sums skipping ns k held (rest ∷ []) =
    cond (begun skipping k held rest) (bad_line Open lines) (sent (rounded sums))
onward lines sums skipping ns k held (line ∷ m ∷ ls) =
    cond (ltb lines most_lines)
    (or_bad (suc lines) (said_fault (line_from skipping ns k held line))
    (onward (suc lines) (added sums (packet_of (said_numbers (line_from skipping ns k held line)))) false
    (said_numbers (line_from skipping ns k held line)) 0 0 (m ∷ ls)))
    late

-- ---- a reading

abbrev pub from : Progress → List (List ℕ) → Outcome
from p ps = onward p.lines p.sums p.skipping p.numbers p.field p.held ps

abbrev pub goes_to : Progress → List ℕ → Outcome
goes_to p text = from p (parts lf text)

-- a bad line stays, whatever follows
abbrev pub unless_bad : Result Progress BadLine → List ℕ → Outcome
unless_bad (Ok p) text = goes_to p text
unless_bad (Err b) text = bad b.fault b.line

unfoldable pub comes_to : Reading → List ℕ → Outcome
comes_to r text = unless_bad r.so_far text

abbrev pub GoesOn : Progress → List ℕ → Result Progress BadLine → Type 0
GoesOn before piece after = (text : List ℕ) → unless_bad after text ≡ goes_to before (piece ++ text)

-- a reading that stands for all of a text before these bytes stands after them for that text with them
abbrev pub Continues : Reading → List ℕ → Reading → Type 0
Continues before piece after = (text : List ℕ) → comes_to after text ≡ comes_to before (piece ++ text)

abbrev pub Begins : Reading → Type 0
Begins r = (text : List ℕ) → comes_to r text ≡ outcome_of (verdict text) (totals text)

-- ---- a turn, behind which these parts are left

abbrev pub turned : Judged → ℕ → Progress → List (List ℕ) → Outcome
turned (Ok tt) lines p ps = from p ps
turned (Err f) lines p ps = bad_line f lines

-- a byte that is no digit of a number is taken
abbrev pub Turned : Progress → ℕ → Judged → Progress → Type 0
Turned p b turn p' = (text : List ℕ) → turned turn p.lines p' (parts lf text) ≡ from p (parts lf (b ∷ text))

-- the eighth number is held, and its line ends
abbrev pub line_ends : Progress → List (List ℕ) → Outcome
line_ends p ps =
    let ms = set p.numbers 7 (p.held - 1) in
    cond (ltb p.lines most_lines)
    (or_bad (suc p.lines) (packet_fault (packet_of ms)) (onward (suc p.lines) (added p.sums (packet_of ms)) p.skipping ms 0 0 ps)) late

abbrev pub LineEnds : Progress → Judged → Progress → Type 0
LineEnds p turn p' = (ps : List (List ℕ)) → turned turn p.lines p' ps ≡ line_ends p ps
