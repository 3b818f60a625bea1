-- A text's parts: there are some, whatever it is, and the first ends where the byte is found that parts them.
use mathlib.Core.Path.{◌≡◌, refl}
use mathlib.Core.Logic.{⊎_elim}
use mathlib.Core.Bool.{Bool, true, false, cond}
use mathlib.Core.List.{List, [], ◌∷◌}
use Prim.Native.Nat.{ℕ, suc, ◌<◌}
use native.Mathlib.Omega.{arith}
use lib.Dec.{eqb}
use lib.ListN.{length, take, drop}
use Rattle.text.specs.Bytes.{index_of}
use Rattle.text.specs.Fields.{longer, parts}
use Rattle.text.proofs.reading.Tests.{decided}

pub record Some (ps : List (List ℕ)) : Type 0 where
  pub first : List ℕ
  pub rest : List (List ℕ)
  pub are : ps ≡ first ∷ rest

longer_some : (b : ℕ) (ps : List (List ℕ)) → Some (longer b ps)
longer_some b [] = record { first = b ∷ []; rest = []; are = refl }
longer_some b (p ∷ ps) = record { first = b ∷ p; rest = ps; are = refl }

either_some : (t : Bool) (b : ℕ) (ps : List (List ℕ)) → Some (cond t ([] ∷ ps) (longer b ps))
either_some true b ps = record { first = []; rest = ps; are = refl }
either_some false b ps = longer_some b ps

pub some : (sep : ℕ) (s : List ℕ) → Some (parts sep s)
some sep [] = record { first = []; rest = []; are = refl }
some sep (b ∷ s) = either_some (eqb b sep) b (parts sep s)

-- ---- the first part, and what is left behind the byte that ends it

module _ (sep : ℕ) where
  -- no such byte: one part
  pub one_part : (s : List ℕ) → index_of sep s ≡ length s → parts sep s ≡ s ∷ []
  unfolding index_of
  one_part [] e = refl
  one_part (b ∷ s) e =
      ⊎_elim
      (λ (t : eqb b sep ≡ true). absurd (let z : ◌≡◌ {A = ℕ} 0 (suc (length s)) = rw t at e in omega arith))
      (λ (t : eqb b sep ≡ false). let i : suc (index_of sep s) ≡ suc (length s) = rw t at e in rw (t, one_part s (omega arith)))
      (decided (eqb b sep))

  pub first_part : (s : List ℕ) → index_of sep s < length s
      → parts sep s ≡ take (index_of sep s) s ∷ parts sep (drop (suc (index_of sep s)) s)
  unfolding index_of
  first_part [] h = absurd (omega arith)
  first_part (b ∷ s) h =
      ⊎_elim
      (λ (t : eqb b sep ≡ true). rw t)
      (λ (t : eqb b sep ≡ false). let i : suc (index_of sep s) < suc (length s) = rw t at h in rw (t, first_part s (omega arith)))
      (decided (eqb b sep))
