-- What is a command, and what is wrong first with a line that is none. Fields are parted by tabs; the first is the command's word.
use Rattle.std.specs.Prelude.{Bool, cond, ◌&&◌, ◌||◌, List, ℕ, ◌+◌, leb, ltb, length, get_or, ⊤, Option, Some, None, Result, Ok, Err}
use Rattle.text.specs.declared.hex.Case.TheVariants.{Lower, Upper}
use Rattle.text.specs.Fields.{count_of, field_at}
use Rattle.text.specs.Hex.{ten, hex_digits}
use Rattle.text.specs.Words.{ascii, alike}
use Rattle.commands.specs.declared.Operation.{Operation}
use Rattle.commands.specs.declared.signatures.Kind.TheVariants.{Byte}
use Rattle.commands.specs.Operations.{kinds}
use Rattle.commands.specs.Arguments.{misfit_from}
use Rattle.radiolog_text.specs.CommandWords.{command_of}
use Rattle.radiolog_text.specs.declared.command_lines.Expected.{Expected}
use Rattle.radiolog_text.specs.declared.command_lines.Expected.TheVariants.{Command, Number, Bytes, Nothing}
use Rattle.radiolog_text.specs.declared.command_lines.Misfit.{Misfit}

abbrev pub Judged : Type 0
Judged = Result ⊤ Misfit

abbrev pub wrong : ℕ → Expected → Judged
wrong field expected = Err (record { field = field; expected = expected })

-- 1 to 1,024 bytes, all in one case of letters, or a dash for none
abbrev pub is_bytes : List ℕ → Bool
is_bytes s =
    alike s (ascii "-") || (leb 1 (length s) && (leb (length s) 2048 && (hex_digits (ten Lower) s || hex_digits (ten Upper) s)))

abbrev pub is_send : List ℕ → Bool
is_send w = alike w (ascii "payload") || alike w (ascii "set_payload")

-- behind n arguments nothing stands
unfoldable pub surplus_flaw : ℕ → List ℕ → Judged
surplus_flaw n line = cond (leb (count_of 9 line) n) (Ok tt) (wrong (n + 2) Nothing)

unfoldable pub bytes_flaw : List ℕ → Judged
bytes_flaw line = cond (is_bytes (field_at 9 1 line)) (surplus_flaw 1 line) (wrong 2 Bytes)

-- the arguments before number i are right
abbrev pub right_up_to : Operation → List ℕ → ℕ → Judged
right_up_to o line i = cond (ltb i (length (kinds o))) (wrong (i + 2) (Number (get_or (kinds o) i Byte))) (surplus_flaw i line)

unfoldable pub numbers_flaw : Operation → List ℕ → Judged
numbers_flaw o line = right_up_to o line (misfit_from 9 1 line 0 (kinds o))

abbrev pub command_flaw : Option Operation → List ℕ → Judged
command_flaw None line = wrong 1 Command
command_flaw (Some o) line = numbers_flaw o line

unfoldable pub flaw_of : List ℕ → Judged
flaw_of line = cond (is_send (field_at 9 0 line)) (bytes_flaw line) (command_flaw (command_of (field_at 9 0 line)) line)
