-- `time_on_air::fault_words::put_name` meets its contract: each field has its name.
use Rattle.std.proofs.Common.{◌≡◌, ℕ, ◌<◌, [], refl, arith}
use Prim.Native.Nat.{zero, suc}
use Rattle.text.proofs.printing.Appending.{nothing}
use Rattle.time_on_air.specs.FaultWords.{name_of}
use Rattle.time_on_air.proofs.fault_words.put_name.Goals as goal

none_named : (k : ℕ) → 7 < k → name_of k ≡ []
none_named zero h = absurd (omega arith)
none_named (suc zero) h = absurd (omega arith)
none_named (suc (suc zero)) h = absurd (omega arith)
none_named (suc (suc (suc zero))) h = absurd (omega arith)
none_named (suc (suc (suc (suc zero)))) h = absurd (omega arith)
none_named (suc (suc (suc (suc (suc zero))))) h = absurd (omega arith)
none_named (suc (suc (suc (suc (suc (suc zero)))))) h = absurd (omega arith)
none_named (suc (suc (suc (suc (suc (suc (suc zero))))))) h = absurd (omega arith)
none_named (suc (suc (suc (suc (suc (suc (suc (suc k)))))))) h = refl

pub returns-in-0-clause-appended : goal.returns-in-0-clause-appended
returns-in-0-clause-appended c = rw c.in-0.is c.put.ensures

pub returns-in-1-clause-appended : goal.returns-in-1-clause-appended
returns-in-1-clause-appended c = rw c.in-1.is c.put-in-1.ensures

pub returns-in-2-clause-appended : goal.returns-in-2-clause-appended
returns-in-2-clause-appended c = rw c.in-2.is c.put-in-2.ensures

pub returns-in-3-clause-appended : goal.returns-in-3-clause-appended
returns-in-3-clause-appended c = rw c.in-3.is c.put-in-3.ensures

pub returns-in-4-clause-appended : goal.returns-in-4-clause-appended
returns-in-4-clause-appended c = rw c.in-4.is c.put-in-4.ensures

pub returns-in-5-clause-appended : goal.returns-in-5-clause-appended
returns-in-5-clause-appended c = rw c.in-5.is c.put-in-5.ensures

pub returns-in-6-clause-appended : goal.returns-in-6-clause-appended
returns-in-6-clause-appended c = rw c.in-6.is c.put-in-6.ensures

pub returns-in-7-clause-appended : goal.returns-in-7-clause-appended
returns-in-7-clause-appended c = rw c.in-7.is c.put-in-7.ensures

pub returns-in_default-clause-appended : goal.returns-in_default-clause-appended
returns-in_default-clause-appended c = rw (none_named c.args.k (omega arith)) (nothing c.args.out.now (omega arith))
