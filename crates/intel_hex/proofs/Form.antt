-- What follows where nothing is wrong with a line.
use Rattle.std.specs.Prelude.{Ok, Err, Option}
use mathlib.Core.Path.{◌≡◌, refl, sym, ap, subst, ◌∙◌}
use mathlib.Core.Bool.{Bool, true, false, cond}
use mathlib.Core.List.{List, [], ◌∷◌}
use Prim.Native.Nat.{ℕ, ◌<◌}
use native.Mathlib.Omega.{arith}
use lib.ListN.{length}
use Rattle.params.specs.declared.hex_faults.HexFault.{HexFault}
use Rattle.params.specs.declared.hex_faults.HexFault.TheVariants.{Form, Count}
use Rattle.intel_hex.specs.Record.{Record, address, is_digit_line, is_counted, bytes_of, record_in}
use Rattle.intel_hex.specs.Faults.{Judged, unless, otherwise, form_fault, kind_fault, sum_fault, is_end}
use Rattle.intel_hex.proofs.Faultless.{unless_fine, otherwise_fine}
use Rattle.intel_hex.specs.Reading.{taken_fault, held_fault, held_line_fault, giving, Puts, Took}

module _ (line : List ℕ) (e : form_fault line ≡ Ok tt) where
  both : (is_digit_line line ≡ true) × (unless (is_counted (bytes_of line)) Count (Ok tt) ≡ Ok tt)
  both = unless_fine (is_digit_line line) Form (unless (is_counted (bytes_of line)) Count (Ok tt)) e

  pub digit_line : is_digit_line line ≡ true
  digit_line = both.0

  pub counted_line : is_counted (bytes_of line) ≡ true
  counted_line = (unless_fine (is_counted (bytes_of line)) Count (Ok tt) both.1).0

-- an empty line is no record
filled : (line : List ℕ) → is_digit_line line ≡ true → 0 < length line
unfolding is_digit_line
filled [] t = absurd (let z : false ≡ true = t in let y : ◌≡◌ {A = ℕ} 0 1 = cc in omega arith)
filled (b ∷ line) t = omega arith

-- what was answered, since nothing is wrong
pub given : {A : Type 0} (j : Judged) (x y : A) → Ok y ≡ giving j x → (j ≡ Ok tt) × (x ≡ y)
given (Ok tt) x y e = (refl, cc)
given (Err f) x y e = (cc, cc)

-- a line with which nothing is wrong has text
pub some_text : (places : List (Option ℕ)) (last : Bool) (line : List ℕ) → held_line_fault places last line ≡ Ok tt → 0 < length line
some_text places last line e =
    filled line (digit_line line (otherwise_fine (form_fault line) (held_fault places last (record_in line)) e).0)

-- and so has its record places that are free
pub places_fine : (places : List (Option ℕ)) (last : Bool) (r : Record) → held_fault places last r ≡ Ok tt → is_end r ≡ false → taken_fault places (address r) (length r.bytes) ≡ Ok tt
places_fine places last r e d =
    let free = cond (is_end r) (Ok tt) (taken_fault places (address r) (length r.bytes)) in
    rw d at (otherwise_fine (otherwise (kind_fault last r) (sum_fault r)) free e).1

-- ---- a line that says a record

module _ (line : List ℕ) (last : Bool) (places : List (Option ℕ)) (r : Record) (says : Ok r ≡ giving (form_fault line) (record_in line)) where
  -- what is wrong with the line is what is wrong with its record
  judged : held_line_fault places last line ≡ held_fault places last r
  judged =
      let g = given (form_fault line) (record_in line) r says in
      ap (λ (j : Judged). otherwise j (held_fault places last (record_in line))) g.0 ∙ ap (held_fault places last) g.1

  -- and what is answered tells whether it is the end record
  told : (t : Bool) → held_fault places last r ≡ Ok tt → is_end r ≡ t → Ok t ≡ giving (held_line_fault places last line) (is_end (record_in line))
  told t e k =
      let g = given (form_fault line) (record_in line) r says in
      rw (judged, e) (ap Ok (sym (ap is_end g.1 ∙ k)))

  pub refused : (f : HexFault) (places' : List (Option ℕ)) → held_fault places last r ≡ Err f → Took line last places (Err f) places'
  refused f places' e = record { is = rw (judged, e); leaves = tt }

  pub end_taken : held_fault places last r ≡ Ok tt → is_end r ≡ true → Took line last places (Ok true) places
  end_taken e t = record { is = told true e t; leaves = refl }

  pub data_taken : (places' : List (Option ℕ)) → held_fault places last r ≡ Ok tt → is_end r ≡ false → Puts r places places' → Took line last places (Ok false) places'
  data_taken places' e t p =
      let g = given (form_fault line) (record_in line) r says in
      record { is = told false e t; leaves = subst (λ (q : Record). Puts q places places') (sym g.1) p }
