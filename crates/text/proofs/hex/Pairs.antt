-- Hexadecimal digits in pairs, and what a digit is worth: what the functions here cite.
use mathlib.Core.Path.{◌≡◌, refl, sym, ap, ◌∙◌}
use mathlib.Core.List.{List, [], ◌∷◌, ◌++◌, append_assoc, append-nil}
use mathlib.Core.Bool.{Bool, true, false, cond, ◌&&◌}
use Prim.Native.Nat.{ℕ, suc, ◌+◌, ◌*◌, ◌/◌, ◌≤◌, ◌<◌}
use native.Mathlib.Numerals.{add-one}
use native.Mathlib.Omega.{arith}
use borrow.Author.Tests.{leb-true}
use lib.Dec.{leb}
use lib.ListN.{length, take, drop, get_or, set, take-append-drop}
use lib.Seq.{drop-cons, take-suc-set, drop-set-lt, drop-drop}
use Rattle.text.specs.declared.hex.Case.{Case}
use Rattle.std.specs.Prelude.{Result, Ok, Err}
use Rattle.text.specs.declared.hex.BytesError.{BytesError}
use Rattle.text.specs.declared.hex.BytesError.TheVariants.{NotHex, Over}
use Rattle.text.specs.Hex.{ten, nibble, hex_digits, bytes_of, bytes_read}
use Rattle.text.proofs.reading.Tests.{and_true}

-- two bounds that were tested together
pub bounds : (a b c d : ℕ) → (leb a b && leb c d) ≡ true → (a ≤ b) × (c ≤ d)
bounds a b c d e =
    let p = and_true (leb a b) (leb c d) e in
    (leb-true a b p.0, leb-true c d p.1)

pub pair_more : (a : ℕ) (s : List ℕ) (j : ℕ) → j + 1 < length s
    → bytes_of a (drop j s) ≡ (nibble a (get_or s j 0) * 16 + nibble a (get_or s (j + 1) 0)) ∷ bytes_of a (drop (j + 2) s)
pair_more a s j h =
    let p : j < length s = omega arith in
    let e : suc (j + 1) ≡ j + 2 = omega arith in
    rw (drop-cons s j 0, ← add-one j, drop-cons s (j + 1) 0, e)

pub none_left : (a : ℕ) (s : List ℕ) → length s ≤ 1 → bytes_of a s ≡ []
none_left a [] h = refl
none_left a (x ∷ []) h = refl
none_left a (x ∷ y ∷ s) h = absurd (omega arith)

-- a byte more is stored
pub stored : (out : List ℕ) (i v : ℕ) (rest : List ℕ) → i < length out → take (i + 1) (set out i v) ++ rest ≡ take i out ++ (v ∷ rest)
stored out i v rest h = rw (add-one i, take-suc-set, append_assoc)

-- and nothing behind it changes
pub behind : (out out₀ : List ℕ) (i v : ℕ) → drop i out ≡ drop i out₀ → drop (i + 1) (set out i v) ≡ drop (i + 1) out₀
behind out out₀ i v e =
    let h : i < i + 1 = omega arith in
    drop-set-lt (i + 1) out i v h ∙ sym (drop-drop 1 i out) ∙ ap (drop 1) e ∙ drop-drop 1 i out₀

pub whole : (out out₀ bytes : List ℕ) (i : ℕ) → take i out ++ [] ≡ bytes → drop i out ≡ drop i out₀ → out ≡ bytes ++ drop i out₀
whole out out₀ bytes i e d = rw (← e, append-nil, ← d) (sym (take-append-drop i out))

-- ---- what was read has room

by_room : (n room : ℕ) (t : Bool) → leb n room ≡ t → {k : ℕ} → ◌≡◌ {A = Result ℕ BytesError} (Ok k) (cond t (Ok n) (Err Over)) → k ≤ room
by_room n room true h {k} e = let l = leb-true n room h in let m : k ≡ n = cc in omega arith
by_room n room false h e = absurd (let z : ◌≡◌ {A = ℕ} 0 1 = cc in omega arith)

by_digits : (d : Bool) (n room : ℕ) {k : ℕ} → ◌≡◌ {A = Result ℕ BytesError} (Ok k) (cond d (cond (leb n room) (Ok n) (Err Over)) (Err NotHex)) → k ≤ room
by_digits true n room e = by_room n room (leb n room) refl e
by_digits false n room e = absurd (let z : ◌≡◌ {A = ℕ} 0 1 = cc in omega arith)

pub roomy : (c : Case) (s : List ℕ) (room k : ℕ) → Ok k ≡ bytes_read c s room → k ≤ room
unfolding bytes_read
roomy c s room k e = by_digits (hex_digits (ten c) s) (length s / 2) room e
