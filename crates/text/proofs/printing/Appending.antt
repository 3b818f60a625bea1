-- One text behind another: what every function that writes cites.
use mathlib.Core.Path.{◌≡◌, refl, sym, ap, subst, ◌∙◌}
use mathlib.Core.List.{List, [], ◌∷◌, ◌++◌, append_assoc, append-nil}
use Prim.Native.Nat.{ℕ, zero, suc, ◌+◌, ◌≤◌, ◌<◌}
use native.Mathlib.Numerals.{add-one}
use native.Mathlib.Omega.{arith}
use lib.ListN.{length, take, drop, get_or, length-append, length-drop, take-append-drop, drop_of_length-le}
use lib.Seq.{length-take-le, take_at, drop_at, drop-drop}
use Rattle.text.specs.declared.printing.Text.{Text}
use Rattle.text.specs.Text.{over, Put}

module _ (at : ℕ) (text out : List ℕ) (h : at + length text ≤ length out) where
  before : length (take at out ++ text) ≡ at + length text
  before = simp (length-append, length-take-le at out (omega arith))

  -- what stands before the end, and what is behind it
  pub said : take (at + length text) (over at text out) ≡ take at out ++ text
  unfolding over
  said = rw (← append_assoc (take at out) text (drop (at + length text) out)) (take_at (take at out ++ text) _ (at + length text) before)

  pub behind : drop (at + length text) (over at text out) ≡ drop (at + length text) out
  unfolding over
  behind = rw (← append_assoc (take at out) text (drop (at + length text) out)) (drop_at (take at out ++ text) (drop (at + length text) out) (at + length text) before)

  together : (t : List ℕ) → over (at + length text) t (over at text out) ≡ over at (text ++ t) out
  unfolding over
  together t =
      let n : at + length (text ++ t) ≡ at + length text + length t = rw length-append (omega arith) in
      let d : drop (at + length text + length t) (over at text out) ≡ drop (at + length text + length t) out = rw (← drop-drop (length t) (at + length text) (over at text out), behind, drop-drop) in
      rw (n, said, d) (append_assoc (take at out) text _ ∙ ap (λ (l : List ℕ). take at out ++ l) (sym (append_assoc text t _)))

-- one text behind another is both together
pub over_over : (at r : ℕ) (s t out : List ℕ) → r ≡ at + length s → r + length t ≤ length out → over r t (over at s out) ≡ over at (s ++ t) out
over_over at r s t out e h = let l : at + length s ≤ length out = omega arith in rw e (together at s out l t)

pub over_nothing : (at : ℕ) (out : List ℕ) → over at [] out ≡ out
unfolding over
over_nothing at out = let e : at + 0 ≡ at = omega arith in rw e (take-append-drop at out)

-- s, and then t behind it
pub then : {s t : List ℕ} {x y z : Text} → Put s x y → Put t y z → Put (s ++ t) x z
then {s} {t} {x} {y} {z} p n =
    let l : y.end + length t ≤ length x.place.now = omega (arith, n.appended.ends, n.appended.fits, p.appended.kept) in
    record {
      same = n.same ∙ p.same;
      appended = record {
        ends = rw length-append (omega (arith, p.appended.ends, n.appended.ends));
        fits = omega (arith, n.appended.fits, p.appended.kept);
        kept = n.appended.kept ∙ p.appended.kept;
        leaves = rw (n.appended.leaves, p.appended.leaves) (over_over x.end y.end s t x.place.now p.appended.ends l);
      };
    }

-- what stands before the end, in the form of `&place[..end]`
pub said_at : (n at : ℕ) (text out : List ℕ) → n ≡ at + length text → n ≤ length out → take n (over at text out) ≡ take at out ++ text
said_at n at text out e h = rw e (said at text out (omega arith))

-- the same text, said in another way
pub same : {s t : List ℕ} {x y : Text} → s ≡ t → Put s x y → Put t x y
same {s} {t} {x} {y} e p = subst (λ (l : List ℕ). Put l x y) e p

-- nothing, at the end of what stands there
pub nothing : (x : Text) → x.end ≤ length x.place.now → Put [] x x
nothing x h = record { same = refl; appended = record { ends = omega arith; fits = h; kept = refl; leaves = sym (over_nothing x.end x.place.now) } }

-- a list's texts, one behind the other: that of one element more
module _ {X : Type 0} (whole : List X → List ℕ) (part : X → List ℕ) (none : whole [] ≡ []) (step : (x : X) (xs : List X) → whole (x ∷ xs) ≡ part x ++ whole xs) where
  last : (xs : List X) (i : ℕ) (d : X) → i < length xs → whole (take i xs) ++ part (get_or xs i d) ≡ whole (take (suc i) xs)
  last [] i d h = absurd (omega arith)
  last (x ∷ xs) zero d h = rw (none, step x [], none) (sym (append-nil (part x)))
  last (x ∷ xs) (suc i) d h = rw (step x (take i xs), step x (take (suc i) xs), append_assoc) (ap (λ (l : List ℕ). part x ++ l) (last xs i d (omega arith)))

  pub one_more : (xs : List X) (i : ℕ) (d : X) → i < length xs → {x y z : Text} → Put (whole (take i xs)) x y → Put (part (get_or xs i d)) y z → Put (whole (take (i + 1) xs)) x z
  one_more xs i d h {x} {y} {z} p n = rw add-one (same (last xs i d h) (then p n))

-- what a function's goals want that writes texts one behind another: name it on the function or its file
pub ruleset texts = (over_over, over_nothing, append_assoc, append-nil, length-append)
