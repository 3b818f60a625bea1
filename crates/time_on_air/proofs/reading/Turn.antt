-- One turn of reading: the digits from a place on, and the byte behind them. Where what is left from a place on gives the whole,
-- what is left behind them gives it too.
-- Assumes nothing.
use mathlib.Core.Path.{◌≡◌, sym, ◌∙◌}
use mathlib.Core.Bool.{Bool}
use mathlib.Core.List.{List, ◌∷◌, ◌++◌}
use Prim.Native.Nat.{ℕ, ◌+◌, ◌≤◌, ◌<◌}
use native.Mathlib.Numerals.{add-one}
use lib.ListN.{length, drop, get_or, drop_of_length-le}
use lib.Seq.{drop-cons}
use Rattle.text.specs.Fields.{parts}
use Rattle.time_on_air.specs.Lines.{lf}
use Rattle.time_on_air.specs.Onward.{Outcome, onward}
use Rattle.time_on_air.specs.Fields.{Stopped}
use Rattle.time_on_air.proofs.Onward.{run}

module _ (piece : List ℕ) (n : ℕ) (sums : List ℕ) (w : Bool) (ns : List ℕ) (k held at : ℕ) (whole : List ℕ → Outcome) (left : (t : List ℕ) → onward n sums w ns k held (parts lf (drop at piece ++ t)) ≡ whole t) where
  module _ (at' held' : ℕ) (s : Stopped piece at held at' held') where
    behind_digits : (t : List ℕ) → onward n sums w ns k held' (parts lf (drop at' piece ++ t)) ≡ whole t
    behind_digits t = rw (← s.holds, ← s.leaves) (sym (run n sums w ns k held (drop at piece) t) ∙ left t)

    pub piece_ends : length piece ≤ at' → (t : List ℕ) → onward n sums w ns k held' (parts lf t) ≡ whole t
    piece_ends l t = rw (drop_of_length-le piece l) at (behind_digits t)

    pub byte_left : at' < length piece → (t : List ℕ)
        → onward n sums w ns k held' (parts lf (get_or piece at' 0 ∷ (drop (at' + 1) piece ++ t))) ≡ whole t
    byte_left l t = rw (add-one at') (rw (drop-cons piece at' 0 l) at (behind_digits t))
