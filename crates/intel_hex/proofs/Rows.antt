-- The text of a row, put together from its parts.
use mathlib.Core.Path.{◌≡◌, refl, sym, ap, ◌∙◌}
use mathlib.Core.List.{List, [], ◌∷◌, ◌++◌, append_assoc, append-nil}
use Prim.Native.Nat.{ℕ, zero, suc, ◌+◌, ◌*◌}
use native.Mathlib.Omega.{arith}
use lib.ListN.{take, drop}
use Rattle.text.specs.declared.hex.Case.TheVariants.{Upper}
use Rattle.text.specs.Numbers.{hex_from, hex}
use Rattle.intel_hex.specs.Record.{Record, lf, colon, summed}
use Rattle.intel_hex.specs.Layout.{row, rows, line_text, lines_text, rows_text}

-- the digits of two lists, one behind the other
pub hex_append : (a : ℕ) (s t : List ℕ) → hex_from a (s ++ t) ≡ hex_from a s ++ hex_from a t
hex_append a [] t = refl
hex_append a (b ∷ s) t = rw (hex_append a s t)

pub line_parts : (r : Record) → (colon ∷ []) ++ (hex Upper (summed r) ++ (hex Upper (r.sum ∷ []) ++ (lf ∷ []))) ≡ line_text r
line_parts r =
    ap (λ (l : List ℕ). colon ∷ l) (sym (append_assoc (hex Upper (summed r)) (hex Upper (r.sum ∷ [])) (lf ∷ [])) ∙ ap (λ (l : List ℕ). l ++ (lf ∷ [])) (sym (hex_append 65 (summed r) (r.sum ∷ []))))

-- one row more
pub row_more : (k a : ℕ) (image : List ℕ) → lines_text (rows k a image) ++ line_text (row (a + 16 * k) (take 16 (drop (a + 16 * k) image))) ≡ lines_text (rows (suc k) a image)
row_more zero a image = let e : a + 16 * 0 ≡ a = omega arith in rw (e, append-nil (line_text (row a (take 16 (drop a image)))))
row_more (suc k) a image =
    let e : a + 16 * suc k ≡ a + 16 + 16 * k = omega arith in
    rw e (append_assoc (line_text (row a (take 16 (drop a image)))) (lines_text (rows k (a + 16) image)) (line_text (row (a + 16 + 16 * k) (take 16 (drop (a + 16 + 16 * k) image)))) ∙ ap (λ (l : List ℕ). line_text (row a (take 16 (drop a image))) ++ l) (row_more k (a + 16) image))

pub all_rows : (k : ℕ) (image : List ℕ) → k ≡ 8 → lines_text (rows k 0 image) ≡ rows_text image
unfolding rows_text
all_rows k image e = ap (λ (n : ℕ). lines_text (rows n 0 image)) e
