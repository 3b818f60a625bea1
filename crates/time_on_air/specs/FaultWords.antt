-- What is wrong with a line of a depot's file, in words.
use Rattle.std.specs.Prelude.{cond, List, [], ◌∷◌, ◌++◌, ℕ, ◌+◌, ltb, get_or}
use Rattle.text.specs.Numbers.{decimal}
use Rattle.text.specs.Words.{ascii}
use Rattle.params.specs.declared.line_faults.LineFault.{LineFault}
use Rattle.params.specs.declared.line_faults.LineFault.TheVariants.{Form, Open, Late, Id, Preamble, Length, SpreadingFactor, Bandwidth, CodingRate, Header, Crc, Sf5, Sf6Explicit}

-- the fields of a line, in their order
abbrev pub names : List (List ℕ)
names =
    ascii "the pack id" ∷ ascii "the spreading factor" ∷ ascii "the bandwidth code" ∷ ascii "the coding rate"
    ∷ ascii "the preamble length" ∷ ascii "the payload length" ∷ ascii "the header flag" ∷ ascii "the CRC flag" ∷ []

abbrev pub name_of : ℕ → List ℕ
name_of k = get_or names k []

-- a field, told from 1 and by its name
unfoldable pub named : ℕ → List ℕ
named k = ascii "field " ++ (decimal (k + 1) ++ (ascii ", " ++ (name_of k ++ ascii ", ")))

abbrev pub words_of : LineFault → List ℕ
words_of (Form k) = cond (ltb k 8) (named k ++ ascii "is missing or no number (digits alone, no leading 0)") (ascii "a ninth field")
words_of Open = ascii "the line does not end with LF"
words_of Late = ascii "a line after the 50000th"
words_of Id = named 0 ++ ascii "is above 4294967295"
words_of Preamble = named 4 ++ ascii "is above 65535"
words_of Length = named 5 ++ ascii "is above 255"
words_of SpreadingFactor = named 1 ++ ascii "is not 5 to 12"
words_of Bandwidth = named 2 ++ ascii "is not 0 to 9"
words_of CodingRate = named 3 ++ ascii "is not 1 to 4"
words_of Header = named 6 ++ ascii "is not 0 or 1"
words_of Crc = named 7 ++ ascii "is not 0 or 1"
words_of Sf5 = named 1 ++ ascii "is 5, which the radios do not have"
words_of Sf6Explicit = named 1 ++ ascii "is 6, which has no explicit header"
