-- A bad line leaves the totals as they were, and stays, whatever follows.
-- Assumes nothing.
use Rattle.std.specs.Prelude.{Err}
use mathlib.Core.Path.{◌≡◌, refl}
use mathlib.Core.Bool.{Bool, true, false, cond}
use mathlib.Core.List.{List}
use Prim.Native.Nat.{ℕ, suc}
use lib.Dec.{ltb}
use Rattle.params.specs.declared.answers.BadLine.{BadLine}
use Rattle.params.specs.declared.line_faults.LineFault.{LineFault}
use Rattle.params.specs.declared.line_faults.LineFault.TheVariants.{Late}
use Rattle.time_on_air.specs.Report.{most_lines}
use Rattle.time_on_air.specs.Onward.{answer_of, bad_line, bad, late, left_by, unless_bad}

either_leaves : (t : Bool) (f : LineFault) (n : ℕ) (old : List ℕ) → left_by (cond t (bad f n) late) old ≡ old
either_leaves true f n old = refl
either_leaves false f n old = refl

pub bad_leaves : (f : LineFault) (lines : ℕ) (old : List ℕ) → left_by (bad_line f lines) old ≡ old
bad_leaves f lines old = either_leaves (ltb lines most_lines) f (suc lines) old

either_stays : (t : Bool) (f : LineFault) (n : ℕ) (b : BadLine) (text : List ℕ) → Err b ≡ answer_of (cond t (bad f n) late) → unless_bad (Err b) text ≡ cond t (bad f n) late
either_stays true f n b text e = let i : b ≡ record { fault = f; line = n } = cc in rw i
either_stays false f n b text e = let i : b ≡ record { fault = Late; line = suc most_lines } = cc in rw i

-- a bad line stays, whatever follows
pub bad_stays : (f : LineFault) (lines : ℕ) (b : BadLine) (text : List ℕ) → Err b ≡ answer_of (bad_line f lines) → unless_bad (Err b) text ≡ bad_line f lines
bad_stays f lines b text e = either_stays (ltb lines most_lines) f (suc lines) b text e
