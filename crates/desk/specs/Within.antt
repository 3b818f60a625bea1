-- What was read lies at the start of the buffer.
use Rattle.std.specs.Prelude.{List, ℕ, Result, Ok, Err}
use Rattle.std.specs.Counts.{IsPrefixLen}
use Rattle.desk.specs.declared.whole_input.InputError.{InputError}

abbrev pub Within : Result ℕ InputError → List ℕ → Type 0
Within (Ok n) s = IsPrefixLen n s
Within (Err why) s = Unit
