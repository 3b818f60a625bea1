-- Which addresses records set, how often, and to what: what the walk and the definition of a right text say of it.
use Rattle.std.specs.Prelude.{Ok}
use mathlib.Core.Path.{◌≡◌, refl, ap, ap₂, subst, ◌∙◌}
use mathlib.Core.Logic.{⊎_elim}
use mathlib.Core.Bool.{true, false}
use mathlib.Core.List.{List, [], ◌∷◌}
use Prim.Native.Nat.{ℕ, zero, suc, ◌+◌, ◌-◌, ◌≤◌, ◌<◌}
use native.Mathlib.Omega.{arith}
use borrow.Author.Tests.{leb-true, ltb-true, le-leb, lt-ltb}
use lib.Dec.{leb, ltb}
use lib.ListN.{length, get_or, drop}
use lib.Seq.{get_or-take, get_or-drop}
use Rattle.text.proofs.reading.Tests.{decided, and_true}
use Rattle.intel_hex.specs.Record.{Record, address}
use Rattle.intel_hex.specs.Places.{has, set_by, value_in, each, image_of}
use Rattle.intel_hex.specs.Faults.{place_fault, unset_fault, incomplete}
use Rattle.intel_hex.specs.Texts.{Fits, times}

-- ---- the addresses of one record

pub has_within : (r : Record) (a : ℕ) → address r ≤ a → a < address r + length r.bytes → has r a ≡ true
has_within r a l h = rw (le-leb (address r) a l, lt-ltb a (address r + length r.bytes) h)

pub within : (r : Record) (a : ℕ) → has r a ≡ true → (address r ≤ a) × (a < address r + length r.bytes)
within r a h =
    let p = and_true (leb (address r) a) (ltb a (address r + length r.bytes)) h in
    (leb-true (address r) a p.0, ltb-true a (address r + length r.bytes) p.1)

pub has_not : (r : Record) (a : ℕ) → (address r ≤ a → a < address r + length r.bytes → ⊥) → has r a ≡ false
has_not r a n =
    ⊎_elim (λ (h : has r a ≡ true). let w = within r a h in absurd (n w.0 w.1)) (λ (h : has r a ≡ false). h) (decided (has r a))

-- the byte that a record which fits sets there
pub fits_value : (image : List ℕ) (r : Record) → Fits image r → (a : ℕ) → has r a ≡ true → get_or r.bytes (a - address r) 0 ≡ get_or image a 0
fits_value image r f a h =
    let w = within r a h in
    let i : a - address r < length r.bytes = omega arith in
    let e : address r + (a - address r) ≡ a = omega arith in
    ap (λ (bs : List ℕ). get_or bs (a - address r) 0) f.bytes
    ∙ get_or-take (length r.bytes) (drop (address r) image) (a - address r) 0 i
    ∙ get_or-drop (address r) image (a - address r) 0
    ∙ ap (λ (k : ℕ). get_or image k 0) e

-- ---- how often, and whether

pub never : (rs : List Record) (a : ℕ) → times rs a ≡ 0 → set_by rs a ≡ false
never [] a e = refl
never (r ∷ rs) a e =
    ⊎_elim
    (λ (h : has r a ≡ true). absurd (let z : 1 + times rs a ≡ 0 = rw h at e in omega arith))
    (λ (h : has r a ≡ false). let z : 0 + times rs a ≡ 0 = rw h at e in rw h (never rs a (omega arith)))
    (decided (has r a))

pub no_times : (rs : List Record) (a : ℕ) → set_by rs a ≡ false → times rs a ≡ 0
no_times [] a e = refl
no_times (r ∷ rs) a e =
    ⊎_elim
    (λ (h : has r a ≡ true). let z : true ≡ false = rw h at e in cc)
    (λ (h : has r a ≡ false). let z : set_by rs a ≡ false = rw h at e in let t = no_times rs a z in rw h (omega arith))
    (decided (has r a))

pub once_set : (rs : List Record) (a : ℕ) → times rs a ≡ 1 → set_by rs a ≡ true
once_set rs a e =
    ⊎_elim (λ (h : set_by rs a ≡ true). h) (λ (h : set_by rs a ≡ false). absurd (let z = no_times rs a h in omega arith)) (decided (set_by rs a))

-- ---- no fault

pub placed : (earlier : List Record) (a : ℕ) (bs : List ℕ) → ((b : ℕ) → a ≤ b → b < a + length bs → (b < 128) × (set_by earlier b ≡ false))
    → place_fault earlier a bs ≡ Ok tt
placed earlier a [] h = refl
placed earlier a (b ∷ bs) h =
    let k = h a (omega arith) (omega arith) in
    rw (lt-ltb a 128 k.0, k.1) (placed earlier (suc a) bs (λ c l m. h c (omega arith) (omega arith)))

all_set : (rs : List Record) (a n : ℕ) → ((b : ℕ) → a ≤ b → b < a + n → set_by rs b ≡ true) → unset_fault rs a n ≡ Ok tt
all_set rs a zero h = refl
all_set rs a (suc n) h = rw (h a (omega arith) (omega arith)) (all_set rs (suc a) n (λ b l m. h b (omega arith) (omega arith)))

pub complete : (rs : List Record) → ((b : ℕ) → b < 128 → set_by rs b ≡ true) → incomplete rs ≡ Ok tt
unfolding incomplete
complete rs h = all_set rs 0 128 (λ b l m. h b (omega arith))

-- ---- the image

each_is : (f : ℕ → ℕ) (a : ℕ) (image : List ℕ) → ((i : ℕ) → i < length image → f (a + i) ≡ get_or image i 0) → each f a (length image) ≡ image
each_is f a [] h = refl
each_is f a (x ∷ xs) h =
    let e : a + 0 ≡ a = omega arith in
    let k : f a ≡ x = rw e at (h 0 (omega arith)) in
    let ks : (i : ℕ) → i < length xs → f (suc a + i) ≡ get_or xs i 0 = λ i l. let s : suc a + i ≡ a + suc i = omega arith in rw s (h (suc i) (omega arith)) in
    ap₂ (λ (y : ℕ) (ys : List ℕ). y ∷ ys) k (each_is f (suc a) xs ks)

pub image_is : (rs : List Record) (image : List ℕ) → length image ≡ 128 → ((a : ℕ) → a < 128 → value_in rs a ≡ get_or image a 0) → image_of rs ≡ image
unfolding image_of
image_is rs image l h =
    subst (λ (n : ℕ). each (value_in rs) 0 n ≡ image) l
    (each_is (value_in rs) 0 image (λ i m. let e : 0 + i ≡ i = omega arith in rw e (h i (omega arith))))

each_length : (f : ℕ → ℕ) (a n : ℕ) → length (each f a n) ≡ n
each_length f a zero = refl
each_length f a (suc n) = ap suc (each_length f (suc a) n)

each_at : (f : ℕ → ℕ) (a n i : ℕ) → i < n → get_or (each f a n) i 0 ≡ f (a + i)
each_at f a zero i h = absurd (omega arith)
each_at f a (suc n) zero h = ap f (let e : a ≡ a + 0 = omega arith in e)
each_at f a (suc n) (suc i) h = each_at f (suc a) n i (omega arith) ∙ ap f (let e : suc a + i ≡ a + suc i = omega arith in e)

pub image_length : (rs : List Record) → length (image_of rs) ≡ 128
unfolding image_of
image_length rs = each_length (value_in rs) 0 128

pub image_at : (rs : List Record) (a : ℕ) → a < 128 → get_or (image_of rs) a 0 ≡ value_in rs a
unfolding image_of
image_at rs a h = each_at (value_in rs) 0 128 a h ∙ ap (value_in rs) (let e : 0 + a ≡ a = omega arith in e)
