-- What stands before the LF of a record's line: it is the text's first part, its form is right, and it says the record.
use Rattle.std.specs.Prelude.{Ok}
use mathlib.Core.Path.{◌≡◌, refl, ◌∙◌}
use mathlib.Core.Logic.{⊎_elim}
use mathlib.Core.Bool.{true, false}
use mathlib.Core.List.{List, [], ◌∷◌, ◌++◌, append_assoc, append-nil}
use Prim.Native.Nat.{ℕ, suc, ◌+◌, ◌-◌, ◌%◌}
use native.Mathlib.Numerals.{add-one}
use native.Mathlib.Omega.{arith}
use borrow.Author.Tests.{eq-eqb}
use lib.Dec.{eqb}
use lib.ListN.{length, get_or, length-append}
use lib.Seq.{take-append_seam, get_or-append_seam}
use Rattle.text.specs.Words.{all}
use Rattle.text.specs.Hex.{any_digit}
use Rattle.text.specs.Fields.{parts}
use Rattle.text.proofs.reading.Tests.{and_true}
use Rattle.intel_hex.specs.Record.{Record, lf, cr, colon, fields, hex_pairs, said, without_cr, is_digit_line, bytes_of, is_counted, record_of, record_in}
use Rattle.intel_hex.specs.Faults.{form_fault}
use Rattle.intel_hex.specs.Texts.{Line}
use Rattle.intel_hex.proofs.Bytes.{no_digit}

-- ---- the fields of a record say it

one_less : (n : ℕ) → suc n - 1 ≡ n
one_less n = omega arith

pub five_more : (r : Record) → length (fields r) ≡ length r.bytes + 5
five_more r = rw (length-append r.bytes (r.sum ∷ [])) (omega arith)

counted : (r : Record) → is_counted (fields r) ≡ true
counted r = eq-eqb (length (fields r)) (length r.bytes + 5) (five_more r)

sum_behind : (r : Record) → get_or (fields r) (length r.bytes + 4) 0 ≡ r.sum
sum_behind r =
    let e : length r.bytes + 4 ≡ suc (suc (suc (suc (length r.bytes)))) = omega arith in
    rw e (get_or-append_seam r.bytes r.sum [] 0)

same_record : (r : Record) → record_of (fields r) ≡ r
same_record r =
    λ i. record { high = r.high; low = r.low; kind = r.kind; bytes = take-append_seam r.bytes (r.sum ∷ []) i; sum = sum_behind r i }

-- ---- parts

-- digits before a text stand in its first part
digits_part : (ds tail p : List ℕ) (ps : List (List ℕ)) → all any_digit ds ≡ true → parts lf tail ≡ p ∷ ps → parts lf (ds ++ tail) ≡ (ds ++ p) ∷ ps
digits_part [] tail p ps a e = e
digits_part (d ∷ ds) tail p ps a e =
    let h = and_true (any_digit d) (all any_digit ds) a in
    rw (no_digit d lf h.0 refl, digits_part ds tail p ps h.1 e)

-- ---- a CR

-- of a byte that is no CR, and digits, the last is none
last_digit : (b : ℕ) (ds : List ℕ) → eqb b cr ≡ false → all any_digit ds ≡ true → eqb (get_or (b ∷ ds) (length ds) 0) cr ≡ false
last_digit b [] e a = e
last_digit b (d ∷ ds) e a = let h = and_true (any_digit d) (all any_digit ds) a in last_digit d ds (no_digit d cr h.0 refl) h.1

no_cr : (ds : List ℕ) → all any_digit ds ≡ true → without_cr (colon ∷ ds) ≡ colon ∷ ds
no_cr ds a = rw (one_less (length ds), last_digit colon ds refl a)

one_cr : (ds : List ℕ) → without_cr (colon ∷ (ds ++ (cr ∷ []))) ≡ colon ∷ ds
one_cr ds =
    let e : length (ds ++ (cr ∷ [])) ≡ suc (length ds) = length-append ds (cr ∷ []) ∙ add-one (length ds) in
    rw (one_less (length (ds ++ (cr ∷ []))), e, get_or-append_seam ds cr [] 0, take-append_seam ds (cr ∷ []))

-- ---- a line

pub record Body (r : Record) (line : List ℕ) : Type 0 where
  pub body : List ℕ
  pub form : is_digit_line body ≡ true
  pub bytes : bytes_of body ≡ fields r
  pub first : (text : List ℕ) → parts lf (line ++ text) ≡ body ∷ parts lf text

module _ (r : Record) (ds : List ℕ) (pairs : hex_pairs ds ≡ true) (says : said ds ≡ fields r) where
  all_digits : all any_digit ds ≡ true
  unfolding hex_pairs
  all_digits = (and_true (eqb (length ds % 2) 0) (all any_digit ds) pairs).1

  by_lf : Body r (colon ∷ (ds ++ (lf ∷ [])))
  unfolding is_digit_line
  by_lf =
      record {
        body = colon ∷ ds;
        form = rw (no_cr ds all_digits) pairs;
        bytes = rw (no_cr ds all_digits) says;
        first = λ text. rw (append_assoc ds (lf ∷ []) text, digits_part ds (lf ∷ text) [] (parts lf text) all_digits refl, append-nil ds);
      }

  by_cr : Body r (colon ∷ (ds ++ (cr ∷ lf ∷ [])))
  unfolding is_digit_line
  by_cr =
      record {
        body = colon ∷ (ds ++ (cr ∷ []));
        form = rw (one_cr ds) pairs;
        bytes = rw (one_cr ds) says;
        first = λ text. rw (append_assoc ds (cr ∷ lf ∷ []) text, digits_part ds (cr ∷ lf ∷ text) (cr ∷ []) (parts lf text) all_digits refl);
      }

pub body_of : {r : Record} {line : List ℕ} → Line r line → Body r line
body_of {r} {line} l =
    ⊎_elim
    (λ (e : l.ending ≡ lf ∷ []). rw (l.is, e) (by_lf r l.digits l.pairs l.says))
    (λ (e : l.ending ≡ cr ∷ lf ∷ []). rw (l.is, e) (by_cr r l.digits l.pairs l.says))
    l.ends

module _ {r : Record} {line : List ℕ} (b : Body r line) where
  pub says_record : record_in b.body ≡ r
  says_record = rw b.bytes (same_record r)

  pub right_form : form_fault b.body ≡ Ok tt
  right_form = rw (b.form, b.bytes, counted r)
