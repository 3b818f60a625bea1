-- A raw image has 128 bytes.
use mathlib.Core.Path.{◌≡◌}
use mathlib.Core.Bool.{true}
use mathlib.Core.List.{List}
use Prim.Native.Nat.{ℕ}
use borrow.Author.Tests.{eqb-true}
use lib.Dec.{eqb}
use lib.ListN.{length}
use Rattle.text.proofs.reading.Tests.{and_true}
use Rattle.dump.specs.Dump.{is_raw}

pub raw_size : (s : List ℕ) → is_raw s ≡ true → length s ≡ 128
unfolding is_raw
raw_size s e = eqb-true (length s) 128 (and_true (eqb (length s) 128) _ e).0
