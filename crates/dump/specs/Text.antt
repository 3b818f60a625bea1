-- What hex text says: bytes of two digits, each with or without 0x before it, white space between them or none.
use Rattle.std.specs.Prelude.{cond, List, [], ◌∷◌, ◌++◌, ℕ, ◌+◌, ◌*◌, ◌%◌, eqb, length, ⊤, Option, Some, None, Result, Ok, Err}
use Rattle.dump.specs.declared.characters.Kind.{Kind}
use Rattle.dump.specs.declared.characters.Kind.TheVariants.{Digit, Blank, X}
use Rattle.dump.specs.declared.hex_text.State.{State}
use Rattle.dump.specs.declared.hex_text.State.TheVariants.{Between, Zero, Prefix, Half}
use Rattle.dump.specs.declared.hex_text.Step.{Step}
use Rattle.dump.specs.declared.hex_text.Step.TheVariants.{To, Byte}
use Rattle.dump.specs.declared.DumpError.{DumpError}
use Rattle.dump.specs.declared.DumpError.TheVariants.{Bytes, Missing, Bad}
use Rattle.dump.specs.Characters.{kind_of}

-- digits are below 16, so the remainders change nothing
abbrev pub byte_of : ℕ → ℕ → ℕ
byte_of h d = h % 16 * 16 + d % 16

-- a digit begins a byte or ends it; behind a first 0 it may be that 0x was meant
abbrev pub on_digit : State → ℕ → Step
on_digit Between d = To (cond (eqb d 0) Zero (Half d))
on_digit Zero d = Byte (d % 16)
on_digit Prefix d = To (Half d)
on_digit (Half h) d = Byte (byte_of h d)

-- what the character behind `at` others does
abbrev pub Stepped : Type 0
Stepped = Result Step DumpError

-- white space parts bytes and no digits of a byte
abbrev pub on_blank : State → ℕ → Stepped
on_blank Between at = Ok (To Between)
on_blank Zero at = Err (Missing at)
on_blank Prefix at = Err (Missing at)
on_blank (Half h) at = Err (Missing at)

abbrev pub on_x : State → ℕ → Stepped
on_x Between at = Err (Bad at)
on_x Zero at = Ok (To Prefix)
on_x Prefix at = Err (Bad at)
on_x (Half h) at = Err (Bad at)

abbrev pub step_of : State → Option Kind → ℕ → Stepped
step_of t (Some (Digit d)) at = Ok (on_digit t d)
step_of t (Some Blank) at = on_blank t at
step_of t (Some X) at = on_x t at
step_of t None at = Err (Bad at)

-- where a step leads, and the byte that it ends
abbrev pub next : Stepped → State
next (Ok (To t)) = t
next (Ok (Byte b)) = Between
next (Err why) = Between

abbrev pub given : Stepped → List ℕ
given (Ok (To t)) = []
given (Ok (Byte b)) = b ∷ []
given (Err why) = []

abbrev pub step_at : State → ℕ → ℕ → Stepped
step_at t c at = step_of t (kind_of c) at

-- the bytes that the text says, from the character behind `at` others on
abbrev pub bytes_from : State → ℕ → List ℕ → List ℕ
bytes_from t at [] = []
bytes_from t at (c ∷ s) = given (step_at t c at) ++ bytes_from (next (step_at t c at)) (at + 1) s

-- ---- whether they are an image

abbrev pub Reading : Type 0
Reading = Result ⊤ DumpError

-- n bytes, ended behind `at` characters
abbrev pub ended : State → ℕ → ℕ → Reading
ended Between at n = cond (eqb n 128) (Ok tt) (Err (Bytes n))
ended Zero at n = Err (Missing at)
ended Prefix at n = Err (Missing at)
ended (Half h) at n = Err (Missing at)

abbrev pub unless : Stepped → Reading → Reading
unless (Ok step) r = r
unless (Err why) r = Err why

-- from a character on, behind `at` others that said n bytes
abbrev pub verdict_from : State → ℕ → ℕ → List ℕ → Reading
verdict_from t at n [] = ended t at n
verdict_from t at n (c ∷ s) = unless (step_at t c at) (verdict_from (next (step_at t c at)) (at + 1) (n + length (given (step_at t c at))) s)
