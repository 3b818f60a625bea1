-- `dump::records::read_records` meets its contract: each answer is a case of the outcome.
use Rattle.std.proofs.Common.{◌≡◌, ℕ, refl, arith}
use Rattle.std.specs.Prelude.{Ok, Err, Result, ⊤}
use borrow.Author.Tests.{eq-eqb}
use Rattle.params.specs.declared.hex_faults.HexFault.{HexFault}
use Rattle.params.specs.declared.mod_params.RadioError.{RadioError}
use Rattle.params.specs.declared.answers.HexError.{HexError}
use Rattle.params.specs.declared.answers.HexError.TheVariants as reading
use Rattle.intel_hex.specs.Faults.{Outcome, Records, Bad, outcome}
use Rattle.intel_hex.specs.Calls.{answered, read_answer, read_leaves}
use Rattle.dump.specs.declared.DumpError.TheVariants.{Record}
use Rattle.dump.specs.Text.{Reading}
use Rattle.dump.specs.Dump.{records_read}
use Rattle.dump.proofs.records.read_records.Goals as goal

abbrev Answer : Type 0
Answer = Result ⊤ HexError

an_image : (o : Outcome) → ◌≡◌ {A = Answer} (Ok tt) (answered o) → ◌≡◌ {A = Reading} (Ok tt) (records_read o)
an_image (Records rs) e = refl
an_image (Bad f n) e = absurd (let z : ◌≡◌ {A = ℕ} 0 1 = cc in omega arith)

a_record : (o : Outcome) (f : HexFault) (n : ℕ) → ◌≡◌ {A = Answer} (Err (reading.Bad f n)) (answered o) → ◌≡◌ {A = Reading} (Err (Record f n)) (records_read o)
a_record (Records rs) f n e = absurd (let z : ◌≡◌ {A = ℕ} 0 1 = cc in omega arith)
a_record (Bad g m) f n e = cc

no_refusal : (o : Outcome) (r : RadioError) → ◌≡◌ {A = Answer} (Err (reading.Refused r)) (answered o) → ⊥
no_refusal (Records rs) r e = absurd (let z : ◌≡◌ {A = ℕ} 0 1 = cc in omega arith)
no_refusal (Bad g m) r e = absurd (let z : ◌≡◌ {A = ℕ} 0 1 = cc in omega arith)

pub returns-in-Ok : goal.returns-in-Ok
unfolding read_answer read_leaves
returns-in-Ok c = let e = rw (eq-eqb _ 128 c.requires) at c.in-Ok.ensures in (an_image (outcome c.args.input.now) e.0, e.1)

pub returns-in-Err-Bad : goal.returns-in-Err-Bad
unfolding read_answer read_leaves
returns-in-Err-Bad c =
    let e = rw (eq-eqb _ 128 c.requires) at (rw c.in-Err-Bad.field-0-is at c.in-Err-Bad.ensures) in
    (a_record (outcome c.args.input.now) _ _ e.0, e.1)

pub unreachable-requires : goal.unreachable-requires
unfolding read_answer read_leaves
unreachable-requires c =
    let e = rw (eq-eqb _ 128 c.requires) at (rw c.in-Err-Refused.field-0-is at c.in-Err-Refused.ensures) in
    no_refusal (outcome c.args.input.now) _ e.0
