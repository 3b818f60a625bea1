-- Values put into a list from a place on, one after the other: there it holds them, elsewhere what it held.
use mathlib.Core.Path.{◌≡◌, refl, ◌∙◌}
use mathlib.Core.Logic.{⊎_elim}
use mathlib.Core.Bool.{Bool, true, false, cond, ◌&&◌}
use mathlib.Core.List.{List}
use Rattle.std.specs.Prelude.{Option, None}
use Prim.Native.Nat.{ℕ, ◌+◌, ◌<◌}
use native.Mathlib.Omega.{arith}
use borrow.Author.Tests.{lt-ltb, le-ltb, le-leb, ltb-true, ltb-false, leb-true, eqb-true, eqb-false}
use lib.Dec.{eqb, leb, ltb}
use lib.ListN.{length, get_or, set, length-set}
use lib.Seq.{get_or-set_same, get_or-set_other}
use Rattle.text.proofs.reading.Tests.{decided}

-- among n places from `first` on
abbrev pub among : ℕ → ℕ → ℕ → Bool
among first n a = leb first a && ltb a (first + n)

pub record Over (vs : ℕ → Option ℕ) (first n : ℕ) (old new : List (Option ℕ)) : Type 0 where
  pub size : length new ≡ length old
  pub at : (a : ℕ) → get_or new a None ≡ cond (among first n a) (vs a) (get_or old a None)

none_among : (first a : ℕ) → among first 0 a ≡ false
none_among first a =
    ⊎_elim
    (λ (t : leb first a ≡ true). let l = leb-true first a t in rw (t, le-ltb a (first + 0) (omega arith)))
    (λ (t : leb first a ≡ false). rw t)
    (decided (leb first a))

-- one place more is `first + n` alone
more_among : (first n a : ℕ) → (a ≡ first + n → ⊥) → ltb a (first + (n + 1)) ≡ ltb a (first + n)
more_among first n a d =
    ⊎_elim
    (λ (t : ltb a (first + n) ≡ true). let l = ltb-true a (first + n) t in rw t (lt-ltb a (first + (n + 1)) (omega arith)))
    (λ (t : ltb a (first + n) ≡ false). let l = ltb-false a (first + n) t in rw t (le-ltb a (first + (n + 1)) (omega (arith, d))))
    (decided (ltb a (first + n)))

module _ (vs : ℕ → Option ℕ) (first : ℕ) (old : List (Option ℕ)) where
  pub none : Over vs first 0 old old
  none = record { size = refl; at = λ a. rw (none_among first a) }

  module _ (n : ℕ) (new : List (Option ℕ)) (v : Option ℕ) (o : Over vs first n old new) (h : first + n < length new) (e : v ≡ vs (first + n)) where
    here : (a : ℕ) → a ≡ first + n → get_or (set new (first + n) v) a None ≡ cond (among first (n + 1) a) (vs a) (get_or old a None)
    here a i =
        rw (i, get_or-set_same new (first + n) v None h, e, le-leb first (first + n) (omega arith), lt-ltb (first + n) (first + (n + 1)) (omega arith))

    elsewhere : (a : ℕ) → (a ≡ first + n → ⊥) → get_or (set new (first + n) v) a None ≡ cond (among first (n + 1) a) (vs a) (get_or old a None)
    elsewhere a d = rw (get_or-set_other new (first + n) a v None d, more_among first n a d) (o.at a)

    pub more : Over vs first (n + 1) old (set new (first + n) v)
    more =
        record {
          size = length-set new (first + n) v ∙ o.size;
          at = λ a. ⊎_elim (λ (t : eqb a (first + n) ≡ true). here a (eqb-true a (first + n) t)) (λ (t : eqb a (first + n) ≡ false). elsewhere a (eqb-false a (first + n) t)) (decided (eqb a (first + n)));
        }
