-- What demand 3 speaks of is what the calls do: the image of whole programming's outcome, and that 24 and 26 alone can still refuse an accepted link.
-- Assumes nothing.
use Rattle.std.specs.Prelude.{Ok}
use mathlib.Core.Path.{◌≡◌, refl, ap, ◌∙◌}
use mathlib.Core.Bool.{Bool, true, false}
use mathlib.Core.List.{List, []}
use Prim.Native.Nat.{ℕ, ◌+◌, ◌*◌, ◌≤◌}
use lib.Dec.{T, leb, le→leb}
use lib.ListN.{length}
use Rattle.params.specs.declared.mod_params.Link.{Link}
use Rattle.params.specs.declared.mod_params.RadioError.TheVariants.{BadImage, LogFull}
use Rattle.params.specs.declared.board.Board.{Board}
use Rattle.params.specs.Errors.{Verdict, or}
use Rattle.refusals.specs.Refusals.{unless, link_refusal}
use Rattle.bus.specs.Steps.{end_after}
use Rattle.bus.specs.Call.{formed, admitted, settled, well}
use Rattle.operations.specs.Programming.{programming, program_link}
use Rattle.operations.specs.Records.{program_records}
use Rattle.operations.proofs.Counts.{program_count}
use Rattle.page.specs.Links.{Accepted}
use Rattle.page.proofs.Acceptance.{accepted_clear}
use Rattle.link.specs.Programmed.{programmed}

-- the verdict on a call to `program`
abbrev pub verdict : Board → Link → List ℕ → List ℕ → ℕ → Verdict
verdict b l im log used = admitted (link_refusal b.variant l) (end_after (programming b l) im used) im log used

-- whole programming that is not refused leaves what demand 3 speaks of
pub leaves_programmed : (b : Board) (l : Link) (im log : List ℕ) (used : ℕ) → verdict b l im log used ≡ (Ok tt) → (program_link b l im log used).image ≡ programmed b l im
leaves_programmed b l im log used e = ap (λ (v : Verdict). (settled v well (programming b l) im [] log [] used).image) e

-- where the log would end
abbrev pub end : Board → ℕ → ℕ
end b used = used + 3 * program_records b.variant b.tcxo_used

-- 26 and 24 alone decide over an accepted link
pub by_26_and_24_alone : (b : Board) (l : Link) (im log : List ℕ) (used : ℕ) → Accepted b l
    → verdict b l im log used ≡ or (unless (formed im log used) BadImage) (unless (leb (end b used) (length log)) LogFull)
unfolding admitted
by_26_and_24_alone b l im log used h = rw (accepted_clear b.variant l h, program_count b l im used)

-- so whole programming of one goes on wherever the call is well formed and its log has room
pub accepted_goes_on : (b : Board) (l : Link) (im log : List ℕ) (used : ℕ) → Accepted b l → T (formed im log used) → end b used ≤ length log
    → verdict b l im log used ≡ (Ok tt)
accepted_goes_on b l im log used h f r = by_26_and_24_alone b l im log used h ∙ by (formed im log used) (leb (end b used) (length log)) f (le→leb (end b used) (length log) r)
  where
    by : (p q : Bool) → T p → T q → or (unless p BadImage) (unless q LogFull) ≡ (Ok tt)
    by true true s t = refl
    by true false s t = absurd t
    by false q s t = absurd s
