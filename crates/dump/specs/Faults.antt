-- What is wrong with an input, in words, and with the refusal's number and name.
use Rattle.std.specs.Prelude.{List, [], ◌∷◌, ◌++◌, ℕ, length, take, get_or, Ok, Err}
use Rattle.text.specs.declared.hex.Case.TheVariants.{Upper}
use Rattle.text.specs.Words.{ascii}
use Rattle.text.specs.Numbers.{decimal, hex}
use Rattle.params.specs.declared.mod_params.RadioError.TheVariants.{BadImage}
use Rattle.params.specs.declared.hex_faults.HexFault.{HexFault}
use Rattle.params.specs.HexFaults.{hex_error_of}
use Rattle.replies.specs.Names.{error_text}
use Rattle.intel_hex.specs.FaultWords.{words_of}
use Rattle.dump.specs.declared.DumpError.TheVariants.{Bytes, Missing, Bad, Record}
use Rattle.dump.specs.declared.faults.Naming.{Naming}
use Rattle.dump.specs.declared.faults.Naming.TheVariants.{Words, Refusal}
use Rattle.dump.specs.Spot.{line_from, column_from, last_line}
use Rattle.dump.specs.Text.{Reading}

-- where something stands behind a text
abbrev pub place_text : List ℕ → List ℕ
place_text s = ascii "line " ++ (decimal (line_from 1 s) ++ (ascii ", column " ++ (decimal (column_from 1 s) ++ ascii ": ")))

-- raw bytes that are not 128 are taken for hex text: so both are said
abbrev pub bad_text : ℕ → ℕ → List ℕ
bad_text b size = ascii "0x" ++ (hex Upper (b ∷ []) ++ (ascii " stands in no hex text, and " ++ (decimal size ++ ascii " bytes are not the 128 of a raw image\n")))

abbrev pub count_text : ℕ → List ℕ
count_text n = ascii "hex text of " ++ (decimal n ++ ascii " bytes, and an image has 128\n")

abbrev pub missing_text : List ℕ
missing_text = ascii "a byte has two digits, and one is missing here\n"

abbrev pub line_text : ℕ → List ℕ
line_text line = ascii "line " ++ (decimal line ++ ascii ": ")

abbrev pub record_text : HexFault → ℕ → List ℕ
record_text f line = line_text line ++ (error_text (hex_error_of f) ++ (words_of f ++ ascii "\n"))

-- the refusal's number and name, where it is to be named
abbrev pub named_text : Naming → List ℕ
named_text Words = []
named_text Refusal = error_text BadImage

-- a wrong count of bytes is told of the text's last line, where the refusal is named
abbrev pub counted_line : Naming → List ℕ → List ℕ
counted_line Words s = []
counted_line Refusal s = line_text (last_line s)

abbrev pub miscounted_text : Naming → ℕ → List ℕ → List ℕ
miscounted_text naming n s = counted_line naming s ++ (named_text naming ++ count_text n)

abbrev pub fault_text : Naming → Reading → List ℕ → List ℕ
fault_text naming (Ok tt) s = []
fault_text naming (Err (Bytes n)) s = miscounted_text naming n s
fault_text naming (Err (Missing at)) s = place_text (take at s) ++ (named_text naming ++ missing_text)
fault_text naming (Err (Bad at)) s = place_text (take at s) ++ (named_text naming ++ bad_text (get_or s at 0) (length s))
fault_text naming (Err (Record f line)) s = record_text f line
