-- What an input holds: Intel HEX, 128 raw bytes, or hex text.
use Rattle.std.specs.Prelude.{Bool, true, false, cond, ◌&&◌, ◌||◌, not, List, ℕ, eqb, length, get_or, Option, Some, None, Ok, Err}
use Rattle.text.specs.Words.{all}
use Rattle.intel_hex.specs.Record.{colon}
use Rattle.intel_hex.specs.Faults as hex
use Rattle.intel_hex.specs.Calls.{taken}
use Rattle.dump.specs.declared.characters.Kind.{Kind}
use Rattle.dump.specs.declared.hex_text.State.TheVariants.{Between}
use Rattle.dump.specs.declared.DumpError.TheVariants.{Record}
use Rattle.dump.specs.Characters.{kind_of, in_records}
use Rattle.dump.specs.Text.{Reading, bytes_from, verdict_from}

abbrev pub known : Option Kind → Bool
known (Some k) = true
known None = false

abbrev pub could_be_hex : ℕ → Bool
could_be_hex c = known (kind_of c)

-- records begin with a colon. So may a raw image: 128 bytes are records only where each could stand in records
unfoldable pub is_records : List ℕ → Bool
is_records s = eqb (get_or s 0 0) colon && (not (eqb (length s) 128) || all in_records s)

-- of the others, 128 bytes that could not all stand in hex text
unfoldable pub is_raw : List ℕ → Bool
is_raw s = eqb (length s) 128 && not (all could_be_hex s)

-- what is read leaves the lent image as it was, unless it is an image
abbrev pub leave : Reading → List ℕ → List ℕ → List ℕ
leave (Ok tt) bytes im = bytes
leave (Err why) bytes im = im

abbrev pub text_read : List ℕ → Reading
text_read s = verdict_from Between 0 0 s

abbrev pub text_left : List ℕ → List ℕ → List ℕ
text_left s im = leave (text_read s) (bytes_from Between 0 s) im

abbrev pub records_read : hex.Outcome → Reading
records_read (hex.Records rs) = Ok tt
records_read (hex.Bad f n) = Err (Record f n)

abbrev pub read_of : List ℕ → Reading
read_of s = cond (is_records s) (records_read (hex.outcome s)) (cond (is_raw s) (Ok tt) (text_read s))

abbrev pub left_of : List ℕ → List ℕ → List ℕ
left_of s im = cond (is_records s) (taken (hex.outcome s) im) (cond (is_raw s) s (text_left s im))
