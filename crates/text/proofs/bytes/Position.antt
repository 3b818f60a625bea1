-- Where a byte stands is what `position` of an iterator answers.
use Rattle.std.proofs.Common.{◌≡◌, ℕ, Bool, true, false, cond, List, length, eqb, ltb, refl, ltb-true, ltb-false, arith}
use Rattle.std.specs.Prelude.{Some, None, ◌≤◌, ◌+◌, suc, [], ◌∷◌}
use Rattle.std.specs.List.{position_or_len}
use Rattle.std.proofs.lemmas.List.Recursion.{is_position_or_len}
use Rattle.text.specs.Bytes.{index_of, Found}

same : (b : ℕ) (s : List ℕ) → index_of b s ≡ position_or_len (λ x. eqb x b) s
unfolding index_of
same b s = is_position_or_len (index_of b) (λ x. eqb x b) refl (λ x xs. let e : suc (index_of b xs) ≡ 1 + index_of b xs = omega arith in rw e) s

bounded : (t : Bool) {i n : ℕ} → i ≤ n → cond t 0 (suc i) ≤ suc n
bounded true h = omega arith
bounded false h = omega arith

-- no further than the end
within : (b : ℕ) (s : List ℕ) → index_of b s ≤ length s
unfolding index_of
within b [] = omega arith
within b (x ∷ s) = bounded (eqb x b) (within b s)

chosen : (b : ℕ) (s : List ℕ) (t : Bool) → ltb (index_of b s) (length s) ≡ t → Found b s (cond t (Some (index_of b s)) None)
chosen b s true e = (refl, ltb-true _ _ e)
chosen b s false e = let l = ltb-false _ _ e in omega (arith, within b s)

pub found : (b : ℕ) (s : List ℕ) → Found b s (cond (ltb (position_or_len (λ x. eqb x b) s) (length s)) (Some (position_or_len (λ x. eqb x b) s)) None)
found b s = rw (← same b s) (chosen b s _ refl)
