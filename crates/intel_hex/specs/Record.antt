-- A record of Intel HEX: what it says, its sum, and the line that says it.
use Rattle.std.specs.Prelude.{Bool, cond, ◌&&◌, List, [], ◌∷◌, ◌++◌, ℕ, ◌+◌, ◌*◌, ◌-◌, ◌%◌, eqb, length, take, drop, get_or}
use Rattle.text.specs.Words.{all}
use Rattle.text.specs.Hex.{any_digit, worth}

abbrev pub lf : ℕ
lf = 10

abbrev pub cr : ℕ
cr = 13

abbrev pub colon : ℕ
colon = 58

-- the bytes stand from the address on, whose high byte comes first
pub record Record : Type 0 where
  pub high : ℕ
  pub low : ℕ
  pub kind : ℕ
  pub bytes : List ℕ
  pub sum : ℕ

abbrev pub address : Record → ℕ
address r = r.high * 256 + r.low

-- the types
abbrev pub data_kind : ℕ
data_kind = 0

abbrev pub end_kind : ℕ
end_kind = 1

-- ---- the sum: with it, a record's bytes add up to a multiple of 256

abbrev pub total : List ℕ → ℕ
total [] = 0
total (b ∷ bs) = b + total bs

unfoldable pub sum_of : List ℕ → ℕ
sum_of bs = (256 - total bs % 256) % 256

-- what the sum is over: count, address, type and bytes
abbrev pub summed : Record → List ℕ
summed r = length r.bytes ∷ r.high ∷ r.low ∷ r.kind ∷ r.bytes

abbrev pub right_sum : Record → ℕ
right_sum r = sum_of (summed r)

-- all that a record's digits say, in their order
abbrev pub fields : Record → List ℕ
fields r = summed r ++ (r.sum ∷ [])

-- ---- digits: of either letter case, two a byte, the high one first

unfoldable pub hex_pairs : List ℕ → Bool
hex_pairs ds = eqb (length ds % 2) 0 && all any_digit ds

abbrev pub said : List ℕ → List ℕ
said [] = []
said (h ∷ []) = []
said (h ∷ l ∷ ds) = (worth h * 16 + worth l) ∷ said ds

-- ---- a line, which stands before an LF: the record that it says, if its form is right

-- a CR may stand before the LF
abbrev pub without_cr : List ℕ → List ℕ
without_cr line = cond (eqb (get_or line (length line - 1) 0) cr) (take (length line - 1) line) line

-- a colon and digits
unfoldable pub is_digit_line : List ℕ → Bool
is_digit_line line = eqb (get_or (without_cr line) 0 0) colon && hex_pairs (drop 1 (without_cr line))

abbrev pub bytes_of : List ℕ → List ℕ
bytes_of line = said (drop 1 (without_cr line))

-- besides the bytes that are counted there are count, address, type and sum
abbrev pub is_counted : List ℕ → Bool
is_counted bs = eqb (length bs) (get_or bs 0 0 + 5)

abbrev pub record_of : List ℕ → Record
record_of bs =
    record {
      high = get_or bs 1 0;
      low = get_or bs 2 0;
      kind = get_or bs 3 0;
      bytes = take (get_or bs 0 0) (drop 4 bs);
      sum = get_or bs (get_or bs 0 0 + 4) 0;
    }

abbrev pub record_in : List ℕ → Record
record_in line = record_of (bytes_of line)
