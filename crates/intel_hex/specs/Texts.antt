-- Which texts are right, said without a walk: lines of data records in any order, and one of the end record, that set each address once.
use Rattle.std.specs.Prelude.{◌≡◌, ◌⊎◌, true, cond, List, [], ◌∷◌, ◌++◌, ℕ, ◌+◌, ltb, length, take, drop}
use Rattle.intel_hex.specs.Record.{Record, lf, cr, colon, data_kind, end_kind, address, sum_of, right_sum, fields, hex_pairs, said}
use Rattle.intel_hex.specs.Places.{has}

-- a record's line: a colon, digits of either letter case that say the record, LF or CR LF
pub record Line (r : Record) (line : List ℕ) : Type 0 where
  pub digits : List ℕ
  pub ending : List ℕ
  pub pairs : hex_pairs digits ≡ true
  pub says : said digits ≡ fields r
  pub ends : (ending ≡ lf ∷ []) ⊎ (ending ≡ cr ∷ lf ∷ [])
  pub is : line ≡ colon ∷ (digits ++ ending)

abbrev pub end_record : Record
end_record = record { high = 0; low = 0; kind = end_kind; bytes = []; sum = sum_of (0 ∷ 0 ∷ 0 ∷ end_kind ∷ []) }

pub data Lines : List Record → List ℕ → Type 0 where
  end : {line : List ℕ} → Line end_record line → Lines [] line
  more : {r : Record} {rs : List Record} {line text : List ℕ} → Line r line → Lines rs text → Lines (r ∷ rs) (line ++ text)

-- a data record with its sum, whose bytes are the image's at their places
pub record Fits (image : List ℕ) (r : Record) : Type 0 where
  pub kind : r.kind ≡ data_kind
  pub sum : r.sum ≡ right_sum r
  pub bytes : r.bytes ≡ take (length r.bytes) (drop (address r) image)

pub data All (P : Record → Type 0) : List Record → Type 0 where
  none : All P []
  also : {r : Record} {rs : List Record} → P r → All P rs → All P (r ∷ rs)

-- how many records have a byte for this address
abbrev pub times : List Record → ℕ → ℕ
times [] a = 0
times (r ∷ rs) a = cond (has r a) 1 0 + times rs a

-- each address below 128 once, and no other
abbrev pub Once : List Record → Type 0
Once rs = (a : ℕ) → times rs a ≡ cond (ltb a 128) 1 0

-- the text is right, and sets this image
pub record Sets (text image : List ℕ) : Type 0 where
  pub records : List Record
  pub lines : Lines records text
  pub fit : All (Fits image) records
  pub once : Once records
  pub size : length image ≡ 128
