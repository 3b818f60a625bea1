-- Our layout: eight data records of 16 bytes from 0 and the end record, in upper case, each line ended by LF.
use Rattle.std.specs.Prelude.{List, [], ◌∷◌, ◌++◌, ℕ, zero, suc, ◌+◌, take, drop}
use Rattle.text.specs.declared.hex.Case.TheVariants.{Upper}
use Rattle.text.specs.Numbers.{hex}
use Rattle.intel_hex.specs.Record.{Record, lf, colon, data_kind, sum_of, fields}
use Rattle.intel_hex.specs.Texts.{end_record}

-- a data record of 16 bytes, from an address below 256 on
abbrev pub row : ℕ → List ℕ → Record
row a bytes =
    record {
      high = 0;
      low = a;
      kind = data_kind;
      bytes = bytes;
      sum = sum_of (16 ∷ 0 ∷ a ∷ data_kind ∷ bytes);
    }

-- n of them, from an address of an image on
abbrev pub rows : ℕ → ℕ → List ℕ → List Record
rows zero a image = []
rows (suc n) a image = row a (take 16 (drop a image)) ∷ rows n (a + 16) image

-- ---- their text

abbrev pub line_text : Record → List ℕ
line_text r = colon ∷ (hex Upper (fields r) ++ (lf ∷ []))

abbrev pub lines_text : List Record → List ℕ
lines_text [] = []
lines_text (r ∷ rs) = line_text r ++ lines_text rs

unfoldable pub rows_text : List ℕ → List ℕ
rows_text image = lines_text (rows 8 0 image)

unfoldable pub layout : List ℕ → List ℕ
layout image = rows_text image ++ line_text end_record

-- its length
abbrev pub layout_size : ℕ
layout_size = 364
