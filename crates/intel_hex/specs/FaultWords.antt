-- What is wrong with a text of Intel HEX, in words.
use Rattle.std.specs.Prelude.{List, [], ◌∷◌, ◌++◌, ℕ, ◌/◌, ◌%◌}
use Rattle.text.specs.declared.hex.Case.TheVariants.{Upper}
use Rattle.text.specs.Numbers.{hex}
use Rattle.text.specs.Words.{ascii}
use Rattle.params.specs.declared.hex_faults.HexFault.{HexFault}
use Rattle.params.specs.declared.hex_faults.HexFault.TheVariants.{Open, Form, Count, Kind, EndHolds, After, Sum, Outside, Twice, NoEnd, Unset}

-- a byte as a record has it
abbrev pub byte_text : ℕ → List ℕ
byte_text b = hex Upper (b ∷ [])

-- four digits are enough: of a record's bytes the first that is wrong is told, at the record's own address or at most 0x0080
unfoldable pub address_text : ℕ → List ℕ
address_text a = ascii "0x" ++ hex Upper (a / 256 % 256 ∷ a % 256 ∷ [])

abbrev pub words_of : HexFault → List ℕ
words_of Open = ascii "the line does not end with LF"
words_of Form = ascii "a record is a colon and pairs of hex digits"
words_of Count = ascii "the record's byte count is not that of its bytes"
words_of (Kind k) = ascii "the record's type is " ++ (byte_text k ++ ascii ", and only 00 (data) and 01 (end) are taken")
words_of EndHolds = ascii "an end record has no bytes, and address 0000"
words_of After = ascii "text follows the end record"
words_of (Sum right) = ascii "the sum is wrong; " ++ (byte_text right ++ ascii " would be right")
words_of (Outside a) = ascii "a byte stands at " ++ (address_text a ++ ascii ", and an image ends at 0x007F")
words_of (Twice a) = ascii "the byte at " ++ (address_text a ++ ascii " was set by an earlier record")
words_of NoEnd = ascii "there is no end record"
words_of (Unset a) = ascii "address " ++ (address_text a ++ ascii " is not set")
