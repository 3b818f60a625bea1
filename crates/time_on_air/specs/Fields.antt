-- The fields of a line, byte after byte: the digits from a place on, and what another byte ends.
use Rattle.std.specs.Prelude.{◌≡◌, Bool, true, false, cond, List, [], ◌∷◌, ℕ, zero, suc, ◌≤◌, ◌<◌, eqb, ltb, length, drop, get_or}
use Rattle.time_on_air.specs.declared.fields.Ended.{Ended}
use Rattle.time_on_air.specs.declared.fields.Ended.TheVariants.{Field, Line, Wrong, WrongLine}
use Rattle.time_on_air.specs.Lines.{tab, lf}
use Rattle.time_on_air.specs.Onward.{more, goes_on, missing}

-- what is held after the digits at the front of a text, and what is left of it
abbrev pub taken : ℕ → List ℕ → ℕ
taken held [] = held
taken held (b ∷ s) = cond (goes_on held b) (taken (more held b) s) held

abbrev pub after : ℕ → List ℕ → List ℕ
after held [] = []
after held (b ∷ s) = cond (goes_on held b) (after (more held b) s) (b ∷ s)

pub record Stopped (piece : List ℕ) (from held at held' : ℕ) : Type 0 where
  pub ahead : from ≤ at
  pub within : at ≤ length piece
  pub holds : taken held (drop from piece) ≡ held'
  pub leaves : after held (drop from piece) ≡ drop at piece
  pub stops : at < length piece → goes_on held' (get_or piece at 0) ≡ false

abbrev pub wrong_at : ℕ → ℕ → Ended
wrong_at k b = cond (eqb b lf) (WrongLine k) (Wrong k)

abbrev pub tab_ends : ℕ → Ended
tab_ends k = cond (ltb k 7) Field (Wrong 8)

abbrev pub lf_ends : ℕ → Ended
lf_ends k = cond (eqb k 7) Line (WrongLine (missing k))

abbrev pub ended_by : Bool → ℕ → ℕ → ℕ → Ended
ended_by true k held b = wrong_at k b
ended_by false k zero b = wrong_at k b
ended_by false k (suc n) b = cond (eqb b tab) (tab_ends k) (cond (eqb b lf) (lf_ends k) (Wrong k))

-- what is known of a field that ends, and of the last field of a line
abbrev pub Right : Ended → ℕ → ℕ → Type 0
Right Field k held = (0 < held) × (k < 7)
Right Line k held = (0 < held) × (k ≡ 7)
Right (Wrong j) k held = Unit
Right (WrongLine j) k held = Unit
