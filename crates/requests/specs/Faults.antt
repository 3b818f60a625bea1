-- What is wrong with a line that is no call, in words.
use Rattle.std.specs.Prelude.{List, ◌++◌, ℕ}
use Rattle.text.specs.Words.{ascii}
use Rattle.text.specs.Numbers.{decimal}
use Rattle.commands.specs.declared.Operation.{Operation}
use Rattle.commands.specs.Operations.{arguments}
use Rattle.requests.specs.declared.Fault.{Fault}
use Rattle.requests.specs.declared.Fault.TheVariants.{LongLine, FieldCount, Variant, Flag, UnknownOperation, Arguments, Bytes, Buffer, Used}

abbrev pub wanted : Operation → List ℕ
wanted o = ascii "field 6: expected arguments: " ++ arguments o

abbrev pub words : Fault → List ℕ
words LongLine = ascii "line over 16384 bytes"
words FieldCount = ascii "expected 11 fields"
words Variant = ascii "field 1: expected 1272 or 1276"
words (Flag n) = ascii "field " ++ (decimal n ++ ascii ": expected 0 or 1")
words UnknownOperation = ascii "field 5: unknown operation"
words (Arguments o) = wanted o
words (Bytes n) = ascii "field " ++ (decimal n ++ ascii ": expected lower-case hex of up to 1024 bytes")
words Buffer = ascii "field 9: expected lower-case hex of up to 4096 bytes"
words Used = ascii "field 11: expected a decimal number"
