-- Airtime per depot (document 02, request [1]): from the text of a file to ten totals in microseconds, or the first bad line.
use Rattle.std.specs.Prelude.{◌≡◌, cond, List, [], ◌∷◌, ℕ, suc, ◌+◌, ◌*◌, eqb, leb, ⊤, Result, Ok, Err}
use Rattle.sheets.specs.Modem.{hertz}
use Rattle.params.specs.Errors.{Told}
use Rattle.params.specs.Answers.{tells_airtime}
use Rattle.params.specs.declared.answers.BadLine.{BadLine}
use Rattle.params.specs.declared.line_faults.LineFault.TheVariants.{Open, Late}
use Rattle.time_on_air.specs.declared.packet.Packet.{Packet}
use Rattle.time_on_air.specs.Packet.{Judged, unless}
use Rattle.time_on_air.specs.Symbols.{ceil, quarter_chips}
use Rattle.text.specs.Fields.{parts}
use Rattle.time_on_air.specs.Lines.{lf, packet_in, line_fault}

-- ---- bad lines, counted from 1. The last part of a text is no line: it is what stands behind the last LF

abbrev pub most_lines : ℕ
most_lines = 50000

abbrev pub line_judged : ℕ → List ℕ → Judged
line_judged n line = unless (leb n most_lines) Late (line_fault line)

-- an end that is missing
abbrev pub rest_judged : ℕ → List ℕ → Judged
rest_judged n [] = Ok tt
rest_judged n (b ∷ rest) = unless (leb n most_lines) Late (Err Open)

abbrev pub or_bad : ℕ → Judged → Result ⊤ BadLine → Result ⊤ BadLine
or_bad n (Ok tt) next = next
or_bad n (Err f) next = Err (record { fault = f; line = n })

abbrev pub first_bad : ℕ → List (List ℕ) → Result ⊤ BadLine
first_bad n [] = Ok tt
first_bad n (rest ∷ []) = or_bad n (rest_judged n rest) (Ok tt)
first_bad n (line ∷ m ∷ ls) = or_bad n (line_judged n line) (first_bad (suc n) (m ∷ ls))

unfoldable pub verdict : List ℕ → Result ⊤ BadLine
verdict text = first_bad 1 (parts lf text)

-- ---- totals: a bandwidth of so many hertz has as many chips a second, so a quarter chip is 250,000 / hertz microseconds

abbrev pub share : ℕ → Packet → ℕ
share bw p = cond (eqb p.bandwidth bw) (quarter_chips p) 0

abbrev pub sum : ℕ → List (List ℕ) → ℕ
sum bw [] = 0
sum bw (rest ∷ []) = 0
sum bw (line ∷ m ∷ ls) = share bw (packet_in line) + sum bw (m ∷ ls)

-- rounded up once
abbrev pub microseconds : ℕ → ℕ → ℕ
microseconds bw sum = ceil (250000 * sum) (hertz bw)

-- for each bandwidth, in the order of its codes
abbrev pub each : (ℕ → ℕ) → List ℕ
each f = f 0 ∷ f 1 ∷ f 2 ∷ f 3 ∷ f 4 ∷ f 5 ∷ f 6 ∷ f 7 ∷ f 8 ∷ f 9 ∷ []

unfoldable pub totals : List ℕ → List ℕ
totals text = each (λ bw. microseconds bw (sum bw (parts lf text)))

-- ---- the report

abbrev pub leaves : Result ⊤ BadLine → List ℕ → List ℕ → List ℕ
leaves (Ok tt) new old = new
leaves (Err bad) new old = old

-- a refusal leaves the lent totals as they were
pub record Reported (text : List ℕ) (before : List ℕ) (answer : Result ⊤ BadLine) (after : List ℕ) : Type 0 where
  pub answers : answer ≡ verdict text
  pub totalled : after ≡ leaves (verdict text) (totals text) before

-- what it tells, by number and values
abbrev pub reported : List ℕ → Told
reported text = tells_airtime (verdict text) (totals text)
