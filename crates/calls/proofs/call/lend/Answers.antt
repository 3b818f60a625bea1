-- `calls::call::lend` is safe: what was read has room.
use Rattle.std.proofs.Common.{◌≡◌, ℕ, List, ◌≤◌, length, length-take-le, arith, sym}
use Rattle.std.specs.Prelude.{Result, Ok, Err}
use Rattle.std.specs.Result.{result_unwrap_or}
use Rattle.text.specs.declared.hex.Case.{Case}
use Rattle.text.specs.declared.hex.BytesError.{BytesError}
use Rattle.text.specs.Hex.{bytes_read}
use Rattle.text.proofs.hex.Pairs.{roomy}
use Rattle.calls.proofs.call.lend.Goals as goal

read : (case : Case) (s : List ℕ) (room n : ℕ) (r : Result ℕ BytesError) → r ≡ bytes_read case s room → n ≡ result_unwrap_or r 0 → n ≤ room
read case s room n (Ok k) e f = omega (arith, roomy case s room k e)
read case s room n (Err why) e f = omega arith

pub slice_bounds-result-end : goal.slice_bounds-result-end
slice_bounds-result-end c =
    let k = read _ _ _ _ _ c.read_hex.ensures.0 c.unwrap_or-n.ensures in
    let h : c.unwrap_or-n.result ≤ length c.read_hex.new.out = omega (arith, k) in
    sym (length-take-le _ _ h)
