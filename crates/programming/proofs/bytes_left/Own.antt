-- Registers that no place of a variant is of stay as they are.
-- Assumes nothing.
use mathlib.Core.Path.{◌≡◌, sym, subst}
use mathlib.Core.Bool.{Bool, true, false}
use mathlib.Core.List.{List, [], ◌∷◌, ◌++◌}
use Prim.Native.Nat.{ℕ, ◌<◌}
use lib.Dec.{T}
use Rattle.sheets.specs.declared.Variant.{Variant}
use Rattle.sheets.specs.declared.Variant.TheVariants.{Sx1272, Sx1276}
use Rattle.sheets.specs.Registers.{reg_tcxo}
use Rattle.params.specs.declared.mod_params.Link.{Link}
use Rattle.params.specs.declared.board.Board.{Board}
use Rattle.page.specs.Page.{written, find, free, Outside}
use Rattle.page.specs.Lora.{places, places_of}
use Rattle.page.proofs.Registers.{among, outside_both, unused, outside}
use Rattle.programming.specs.Registers.{alike}

-- the registers that a variant has at an address of its own
abbrev own : Variant → List ℕ
own Sx1272 = 0x5a ∷ 0x58 ∷ []
own Sx1276 = 0x4d ∷ 0x4b ∷ 0x26 ∷ 0x0b ∷ []

all_among : (v : Variant) (boost tcxo : Bool) → T (among (own v ++ alike) (places v boost tcxo))
all_among Sx1272 boost true = tt
all_among Sx1272 boost false = tt
all_among Sx1276 boost true = tt
all_among Sx1276 boost false = tt

pub left_alone : (b : Board) (v : Variant) → b.variant ≡ v → (a : ℕ) → Outside alike a → Outside (own v) a → (l : Link) (old : ℕ) → old < 256
    → old ≡ written (find a (places_of b)) l old
left_alone b v e a o n l old m =
    let n' : Outside (own b.variant) a = subst (λ (w : Variant). Outside (own w) a) (sym e) n in
    outside (places_of b) a l old m (own b.variant ++ alike) (outside_both (own b.variant) alike a n' o) (all_among b.variant b.tx_boost b.tcxo_used)

no_tcxo : (v : Variant) (boost tcxo : Bool) → tcxo ≡ false → T (free (reg_tcxo v) (places v boost tcxo))
no_tcxo Sx1272 boost tcxo e = rw e tt
no_tcxo Sx1276 boost tcxo e = rw e tt

pub crystal : (b : Board) → b.tcxo_used ≡ false → (l : Link) (old : ℕ) → old < 256 → old ≡ written (find (reg_tcxo b.variant) (places_of b)) l old
crystal b e l old m = unused (places_of b) (reg_tcxo b.variant) l old m (no_tcxo b.variant b.tx_boost b.tcxo_used e)
