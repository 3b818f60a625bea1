-- What a walk holds of the records so far: at each place that one of them sets the byte there.
use Rattle.std.specs.Prelude.{◌≡◌, Bool, true, false, cond, List, [], ◌∷◌, ℕ, zero, suc, ◌-◌, ◌<◌, ltb, length, get_or, Option, Some, None, is_none, is_some, ⊤, Result, Ok, Err}
use Rattle.params.specs.declared.hex_faults.HexFault.{HexFault}
use Rattle.params.specs.declared.hex_faults.HexFault.TheVariants.{Outside, Twice, Unset}
use Rattle.params.specs.declared.answers.HexError.{HexError}
use Rattle.params.specs.declared.answers.HexError.TheVariants as reading
use Rattle.intel_hex.specs.Record.{Record, address, record_in}
use Rattle.intel_hex.specs.Places.{has, set_by, value_in, image_of}
use Rattle.intel_hex.specs.Faults.{Judged, Outcome, unless, otherwise, form_fault, kind_fault, sum_fault, is_end}
use Rattle.intel_hex.specs.Faults as faults

abbrev pub byte_in : List Record → ℕ → Option ℕ
byte_in rs a = cond (set_by rs a) (Some (value_in rs a)) None

pub record Holds (rs : List Record) (places : List (Option ℕ)) : Type 0 where
  pub many : length places ≡ 128
  pub byte : (a : ℕ) → a < 128 → get_or places a None ≡ byte_in rs a

-- ---- faults, as the places tell them

abbrev pub taken_fault : List (Option ℕ) → ℕ → ℕ → Judged
taken_fault places a zero = Ok tt
taken_fault places a (suc n) =
    unless (ltb a 128) (Outside a) (unless (is_none (get_or places a None)) (Twice a) (taken_fault places (suc a) n))

abbrev pub free_fault : List (Option ℕ) → ℕ → ℕ → Judged
free_fault places a zero = Ok tt
free_fault places a (suc n) = unless (is_some (get_or places a None)) (Unset a) (free_fault places (suc a) n)

unfoldable pub free_in : List (Option ℕ) → Judged
free_in places = free_fault places 0 128

abbrev pub held_fault : List (Option ℕ) → Bool → Record → Judged
held_fault places last r =
    otherwise (otherwise (kind_fault last r) (sum_fault r)) (cond (is_end r) (Ok tt) (taken_fault places (address r) (length r.bytes)))

abbrev pub held_line_fault : List (Option ℕ) → Bool → List ℕ → Judged
held_line_fault places last line = otherwise (form_fault line) (held_fault places last (record_in line))

-- ---- one line taken

-- what is answered where nothing is wrong
abbrev pub giving : {A : Type 0} → Judged → A → Result A HexFault
giving (Ok tt) answer = Ok answer
giving (Err f) answer = Err f

-- a record put at its places, among what is held
pub record Puts (r : Record) (places places' : List (Option ℕ)) : Type 0 where
  pub many : length places' ≡ length places
  pub byte : (a : ℕ) → get_or places' a None ≡ cond (has r a) (Some (get_or r.bytes (a - address r) 0)) (get_or places a None)

-- what a line leaves that was told to be the end record or none, or was refused
abbrev pub Leaves : Result Bool HexFault → Record → List (Option ℕ) → List (Option ℕ) → Type 0
Leaves (Ok false) r places places' = Puts r places places'
Leaves (Ok true) r places places' = places' ≡ places
Leaves (Err f) r places places' = Unit

pub record Took (line : List ℕ) (last : Bool) (places : List (Option ℕ)) (told : Result Bool HexFault) (places' : List (Option ℕ)) : Type 0 where
  pub is : told ≡ giving (held_line_fault places last line) (is_end (record_in line))
  pub leaves : Leaves told (record_in line) places places'

-- ---- the whole walk

-- what is answered at the end record, in this line
abbrev pub ended_as : Judged → ℕ → Result ⊤ HexError
ended_as (Ok tt) n = Ok tt
ended_as (Err f) n = Err (reading.Bad f n)

-- the bytes that are held, 0 where none is
abbrev pub shown : List (Option ℕ) → List ℕ
shown [] = []
shown (None ∷ places) = 0 ∷ shown places
shown (Some b ∷ places) = b ∷ shown places

abbrev pub Shown : Outcome → List (Option ℕ) → Type 0
Shown (faults.Records rs) places = shown places ≡ image_of rs
Shown (faults.Bad f n) places = Unit
