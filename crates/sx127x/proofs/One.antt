-- One result: two answers that meet one outcome, and what they leave, are equal. Every call's contract has this shape.
-- Assumes nothing.
use mathlib.Core.Path.{◌≡◌, sym, ◌∙◌}
use mathlib.Core.List.{List}
use Prim.Native.Nat.{ℕ}
use Rattle.std.specs.Prelude.{Result}
use Rattle.params.specs.declared.mod_params.RadioError.{RadioError}
use Rattle.params.specs.declared.mod_params.ModulationParams.{ModulationParams}
use Rattle.params.specs.declared.mod_params.PacketParams.{PacketParams}
use Rattle.params.specs.Errors.{Told}
use Rattle.params.specs.Answers.{tells_done, tells_payload, tells_status, tells_irq, tells_modulation, tells_packet}
use Rattle.params.proofs.Determined.{answer_determined, payload_determined, status_determined, irq_determined, modulation_determined, packet_determined}
use Rattle.bus.specs.Call.{Outcome, Meets}
use Rattle.bus.proofs.admit.Calls.{only}

-- an answer, how much of the log is used, and all that was lent, as a call leaves them
abbrev Same : {A : Type 0} → A → A → (u u' : ℕ) (im im' fifo fifo' log log' buffer buffer' : List ℕ) → Type 0
Same a a' u u' im im' fifo fifo' log log' buffer buffer' = (a ≡ a') × (u ≡ u') × (im ≡ im') × (fifo ≡ fifo') × (log ≡ log') × (buffer ≡ buffer')

-- two answers of a kind that meet one outcome
abbrev One : {A : Type 0} → (A → Told) → Type 0
One {A} tells = (o : Outcome) (a a' : A) (u u' : ℕ) (im im' fifo fifo' log log' buffer buffer' : List ℕ)
    → Meets o (tells a) u im fifo log buffer → Meets o (tells a') u' im' fifo' log' buffer' → Same a a' u u' im im' fifo fifo' log log' buffer buffer'

one : {A : Type 0} (tells : A → Told) → ((a b : A) → tells a ≡ tells b → a ≡ b) → One tells
one tells determined o a a' u u' im im' fifo fifo' log log' buffer buffer' p q =
    let e = only p q in (determined a a' e.0, e.1, e.2, e.3, e.4, e.5)

-- ---- the calls that append

pub one_answer : One tells_done
one_answer = one tells_done answer_determined

pub one_payload : One tells_payload
one_payload = one tells_payload payload_determined

pub one_status : One tells_status
one_status = one tells_status status_determined

pub one_event : One tells_irq
one_event = one tells_irq irq_determined

-- ---- the calls that append nothing

pub one_modulation : (t : Told) (a a' : Result ModulationParams RadioError) → tells_modulation a ≡ t → tells_modulation a' ≡ t → a ≡ a'
one_modulation t a a' p q = modulation_determined a a' (p ∙ sym q)

pub one_packet : (t : Told) (a a' : Result PacketParams RadioError) → tells_packet a ≡ t → tells_packet a' ≡ t → a ≡ a'
one_packet t a a' p q = packet_determined a a' (p ∙ sym q)
