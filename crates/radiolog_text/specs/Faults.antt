-- What is wrong with a line that is no command, in words.
use Rattle.std.specs.Prelude.{List, ◌++◌, ℕ}
use Rattle.text.specs.Words.{ascii}
use Rattle.text.specs.Numbers.{decimal}
use Rattle.commands.specs.declared.signatures.Kind.{Kind}
use Rattle.commands.specs.declared.signatures.Kind.TheVariants.{Byte, Word, Hertz, Count, Power}
use Rattle.commands.specs.Operations.{most}
use Rattle.radiolog_text.specs.declared.command_lines.Expected.{Expected}
use Rattle.radiolog_text.specs.declared.command_lines.Expected.TheVariants.{Command, Number, UpTo, Bytes, Nothing}

abbrev pub from_zero : ℕ → List ℕ
from_zero most = ascii "a number from 0 to " ++ decimal most

abbrev pub range_text : Kind → List ℕ
range_text Power = ascii "a number from -2147483648 to 2147483647"
range_text Byte = from_zero (most Byte)
range_text Word = from_zero (most Word)
range_text Hertz = from_zero (most Hertz)
range_text Count = from_zero (most Count)

abbrev pub expected_text : Expected → List ℕ
expected_text Command = ascii "a command"
expected_text (Number kind) = range_text kind
expected_text (UpTo most) = from_zero most
expected_text Bytes = ascii "hexadecimal digits in pairs, of one case, or - for none"
expected_text Nothing = ascii "nothing more"

abbrev pub place_text : ℕ → ℕ → List ℕ
place_text line field = ascii "?\tline " ++ (decimal line ++ (ascii ", field " ++ decimal field))

abbrev pub wrong_text : ℕ → ℕ → Expected → List ℕ
wrong_text line field e = place_text line field ++ (ascii ": expected " ++ (expected_text e ++ ascii "\n"))
