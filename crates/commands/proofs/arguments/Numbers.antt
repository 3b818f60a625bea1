-- A number that a text says is at most what was asked.
use mathlib.Core.Path.{◌≡◌, refl}
use mathlib.Core.List.{List}
use Prim.Native.Nat.{ℕ, ◌≤◌}
use native.Mathlib.Omega.{arith}
use Rattle.std.specs.Prelude.{Result, Ok, Err}
use Rattle.std.specs.Result.{result_unwrap_or}
use Rattle.text.specs.declared.read_decimals.NumberError.{NumberError}
use Rattle.text.specs.Decimal.{number_of}
use Rattle.text.specs.Fields.{field_at}
use Rattle.text.proofs.read_decimals.Valued.{within}
use Rattle.commands.specs.declared.signatures.Kind.{Kind}
use Rattle.commands.specs.declared.signatures.Kind.TheVariants.{Byte, Word, Hertz, Count, Power}
use Rattle.commands.specs.Operations.{most}
use Rattle.commands.specs.Arguments.{argument, of_most, of_kind}

said : (most : ℕ) (s : List ℕ) (r : Result ℕ NumberError) → r ≡ number_of most s → result_unwrap_or r 0 ≤ most
said most s (Ok n) e = within most s e
said most s (Err why) e = omega arith

pub at_most : (most parting : ℕ) (s : List ℕ) (i : ℕ) → argument most parting s i ≤ most
unfolding argument
at_most most parting s i = said most (field_at parting i s) _ refl

-- a number of a kind is one up to the kind's bound
pub most_kind : (k : Kind) (s : List ℕ) → of_most (most k) s ≡ of_kind k s
unfolding of_most
most_kind Byte s = refl
most_kind Word s = refl
most_kind Hertz s = refl
most_kind Count s = refl
most_kind Power s = refl
