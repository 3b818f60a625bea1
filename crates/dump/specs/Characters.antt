-- The characters of hex text: digits of either letter case, white space, and the x of 0x; and those of records.
use Rattle.std.specs.Prelude.{Bool, cond, ◌&&◌, ◌||◌, ℕ, eqb, leb, Option, Some, None}
use Rattle.text.specs.Hex.{any_digit, worth}
use Rattle.intel_hex.specs.Record.{lf, cr, colon}
use Rattle.dump.specs.declared.characters.Kind.{Kind}
use Rattle.dump.specs.declared.characters.Kind.TheVariants.{Digit, Blank, X}

-- space, and tab, line feed, vertical tab, form feed, carriage return
abbrev pub is_blank : ℕ → Bool
is_blank c = eqb c 32 || (leb 9 c && leb c 13)

abbrev pub is_x : ℕ → Bool
is_x c = eqb c 120 || eqb c 88

-- a digit with what it is worth
unfoldable pub kind_of : ℕ → Option Kind
kind_of c = cond (any_digit c) (Some (Digit (worth c))) (cond (is_blank c) (Some Blank) (cond (is_x c) (Some X) None))

abbrev pub in_records : ℕ → Bool
in_records c = any_digit c || (eqb c colon || (eqb c cr || eqb c lf))
