-- Words that are found the same are equal.
use Rattle.std.proofs.Common.{◌≡◌, ℕ, List, [], ◌∷◌, true, refl, sym}
use Rattle.text.proofs.reading.Tests.{and_true}
use borrow.Author.Tests.{eqb-true}
use mathlib.Core.Bool.{true≢false}
use lib.Dec.{eqb}
use Rattle.text.specs.Words.{alike}

pub alike_eq : (s t : List ℕ) → alike s t ≡ true → s ≡ t
alike_eq [] [] e = refl
alike_eq [] (y ∷ t) e = absurd (true≢false (sym e))
alike_eq (x ∷ s) [] e = absurd (true≢false (sym e))
alike_eq (x ∷ s) (y ∷ t) e =
    let p = and_true (eqb x y) (alike s t) e in
    rw (eqb-true x y p.0, alike_eq s t p.1)
