-- What is wrong with a line that is no call, first of all that is.
use Rattle.std.specs.Prelude.{Bool, cond, ◌&&◌, ◌||◌, List, ℕ, eqb, leb, length, ⊤, Option, Some, None, Result, Ok, Err}
use Rattle.text.specs.declared.hex.Case.TheVariants.{Lower}
use Rattle.text.specs.Fields.{count_of, field_at}
use Rattle.text.specs.Hex.{ten, hex_digits}
use Rattle.text.specs.Words.{ascii, alike}
use Rattle.commands.specs.declared.Operation.{Operation}
use Rattle.commands.specs.declared.signatures.Kind.TheVariants.{Count}
use Rattle.requests.specs.declared.Fault.{Fault}
use Rattle.requests.specs.declared.Fault.TheVariants.{LongLine, FieldCount, Variant, Flag, UnknownOperation, Arguments, Bytes, Buffer, Used}
use Rattle.commands.specs.Operations.{kinds, operation_of}
use Rattle.commands.specs.Arguments.{of_kind, fit}

abbrev pub Flaw : Type 0
Flaw = Result ⊤ Fault

abbrev pub or_else : Flaw → Flaw → Flaw
or_else (Ok tt) next = next
or_else (Err f) next = Err f

abbrev pub checked : Bool → Fault → Flaw
checked right f = cond right (Ok tt) (Err f)

-- field k of a line, counted from 0
abbrev pub at : ℕ → List ℕ → List ℕ
at k line = field_at 9 k line

abbrev pub is_either : List ℕ → List ℕ → List ℕ → Bool
is_either a b s = alike s a || alike s b

-- bytes in so many digits at most, or none
abbrev pub is_lent : ℕ → List ℕ → Bool
is_lent digits s = alike s (ascii "-") || (leb 1 (length s) && (leb (length s) digits && hex_digits (ten Lower) s))

-- field k, which is told as number n
unfoldable pub flag_flaw : ℕ → ℕ → List ℕ → Flaw
flag_flaw k n line = checked (is_either (ascii "0") (ascii "1") (at k line)) (Flag n)

-- an image, a FIFO or a log: up to 1,024 bytes
unfoldable pub bytes_flaw : ℕ → ℕ → List ℕ → Flaw
bytes_flaw k n line = checked (is_lent 2048 (at k line)) (Bytes n)

-- a buffer: up to 4,096
unfoldable pub buffer_flaw : List ℕ → Flaw
buffer_flaw line = checked (is_lent 8192 (at 8 line)) Buffer

unfoldable pub head_flaw : List ℕ → Flaw
head_flaw line =
    or_else (checked (is_either (ascii "1272") (ascii "1276") (at 0 line)) Variant)
    (or_else (flag_flaw 1 2 line) (or_else (flag_flaw 2 3 line) (flag_flaw 3 4 line)))

abbrev pub arguments_flaw : Option Operation → List ℕ → Flaw
arguments_flaw None s = Err UnknownOperation
arguments_flaw (Some o) s = checked (fit (kinds o) s) (Arguments o)

unfoldable pub asked_flaw : List ℕ → Flaw
asked_flaw line = arguments_flaw (operation_of (at 4 line)) (at 5 line)

unfoldable pub lent_flaw : List ℕ → Flaw
lent_flaw line = or_else (bytes_flaw 6 7 line) (or_else (bytes_flaw 7 8 line) (or_else (buffer_flaw line) (bytes_flaw 9 10 line)))

unfoldable pub used_flaw : List ℕ → Flaw
used_flaw line = checked (of_kind Count (at 10 line)) Used

unfoldable pub flaw_of : List ℕ → Flaw
flaw_of line =
    or_else (checked (leb (length line) 16384) LongLine)
    (or_else (checked (eqb (count_of 9 line) 10) FieldCount)
    (or_else (head_flaw line) (or_else (asked_flaw line) (or_else (lent_flaw line) (used_flaw line)))))
