-- What programming leaves at each address: what the place there leaves of the byte that was there, and the byte itself where there is none.
-- Assumes nothing.
use mathlib.Core.Path.{◌≡◌, refl, ap, ◌∙◌}
use mathlib.Core.Bool.{Bool, true, false}
use mathlib.Core.List.{List, [], ◌∷◌}
use Prim.Native.Nat.{ℕ, ◌<◌}
use native.Mathlib.Omega.{arith}
use borrow.Author.Tests.{eqb-true, eqb-false}
use lib.Dec.{T, eqb}
use lib.ListN.{length, get_or, length-set}
use lib.Seq.{get_or-set_same, get_or-set_other}
use Rattle.sheets.specs.Bits.{replaced}
use Rattle.sheets.proofs.Sweep.{equal, both}
use Rattle.page.specs.Page.{Image, Place, Page, Lawful, written, writes, find, pick, free, apart, program}
use Rattle.page.proofs.Demand3.{below, untouched}

pub kept_byte : (v : ℕ) → v < 256 → v ≡ replaced 255 0 v
kept_byte v h = equal 0 256 (λ k. k) (replaced 255 0) tt v (omega arith) (omega arith)

module _ {S : Type 0} (s : S) where
  left_at : (a : ℕ) (ps : List (Place S)) (im : List ℕ) → T (apart ps) → length im ≡ 128 → get_or im a 0 < 256
      → get_or (writes ps s im) a 0 ≡ written (find a ps) s (get_or im a 0)
  left_at a [] im d n b = kept_byte (get_or im a 0) b
  left_at a (p ∷ ps) im d n b = by (eqb a p.addr) refl (λ x m c. left_at a ps x h.1 m c)
    where
      h : T (free p.addr ps) × T (apart ps)
      h = both (free p.addr ps) (apart ps) d

      by : (t : Bool) → eqb a p.addr ≡ t
          → ((x : List ℕ) → length x ≡ 128 → get_or x a 0 < 256 → get_or (writes ps s x) a 0 ≡ written (find a ps) s (get_or x a 0))
          → get_or (writes (p ∷ ps) s im) a 0 ≡ written (pick t p (find a ps)) s (get_or im a 0)
      by true e rest =
          let l = below p.addr ps h.0 in
          rw (eqb-true a p.addr e) (untouched s p.addr ps _ h.0 ∙ get_or-set_same im p.addr _ 0 (omega arith))
      by false e rest =
          let same = get_or-set_other im p.addr a (written p s (get_or im p.addr 0)) 0 (eqb-false a p.addr e) in
          rest _ (length-set im p.addr _ ∙ n) (rw same b) ∙ ap (written (find a ps) s) same

pub left_by : (P : Page) → Lawful P → (s : P.Setting) (im : List ℕ) → Image im → (a : ℕ) → get_or (program P s im) a 0 ≡ written (find a P.places) s (get_or im a 0)
left_by P L s im I a = left_at s a P.places im L.own_places I.size (I.byte a)
