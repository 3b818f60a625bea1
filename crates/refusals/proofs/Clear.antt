-- What a clear verdict says of the arguments.
-- Assumes nothing.
use Rattle.std.specs.Prelude.{Ok, Err}
use mathlib.Core.Path.{◌≡◌, refl, sym}
use mathlib.Core.Bool.{Bool, true, false, ◌&&◌}
use Prim.Native.Nat.{ℕ, ◌≤◌}
use native.Mathlib.Omega.{arith}
use borrow.Author.Tests.{le-leb}
use lib.Dec.{T, leb, leb→le}
use Rattle.sheets.proofs.Sweep.{both}
use Rattle.params.specs.declared.mod_params.RadioError.{RadioError}
use Rattle.params.specs.declared.mod_params.RadioError.TheVariants.{InvalidConfiguration}
use Rattle.params.specs.Errors.{Verdict, or}
use Rattle.refusals.specs.Refusals.{unless, named}

pub clear≢refused : (e : RadioError) → ◌≡◌ {A = Verdict} (Ok tt) (Err e) → ⊥
clear≢refused e p = let z : ◌≡◌ {A = ℕ} 0 1 = cc in omega arith

pub passes : (b : Bool) (e : RadioError) → unless b e ≡ (Ok tt) → T b
passes true e p = tt
passes false e p = absurd (clear≢refused e (sym p))

pub both_clear : (v w : Verdict) → or v w ≡ (Ok tt) → (v ≡ (Ok tt)) × (w ≡ (Ok tt))
both_clear (Ok tt) w p = (refl, p)
both_clear (Err e) w p = absurd (clear≢refused e (sym p))

-- a code that names a case lies in its range
pub named_clear : (first last code : ℕ) → named first last code ≡ (Ok tt) → (first ≤ code) × (code ≤ last)
named_clear first last code p =
    let t = both (leb first code) (leb code last) (passes (leb first code && leb code last) InvalidConfiguration p) in
    (leb→le first code t.0, leb→le code last t.1)

-- and one that lies in it names a case
pub named_if : (first last code : ℕ) → first ≤ code → code ≤ last → named first last code ≡ (Ok tt)
named_if first last code l h = rw (le-leb first code l, le-leb code last h)
