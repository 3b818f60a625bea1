-- What a read of a whole input drew of the bytes that its reader had left, where those are known.
use Rattle.std.specs.Prelude.{ℕ, ◌≤◌, List, length, take, Option, Result, Ok, Err}
use Rattle.std.specs.Io.KnownBytes.{Consumes, IsAtEnd}
use Rattle.desk.specs.declared.whole_input.InputError.{InputError}
use Rattle.desk.specs.declared.whole_input.InputError.TheVariants.{More, Failed}

-- all of them, as many as the buffer holds, or some of them
abbrev pub Draws : Result ℕ InputError → Option (List ℕ) → Option (List ℕ) → List ℕ → Type 0
Draws (Ok n) old new s = Consumes old new (take n s) × IsAtEnd new
Draws (Err More) old new s = Consumes old new s
Draws (Err (Failed e)) old new s = (n : ℕ) × (n ≤ length s) × Consumes old new (take n s)
