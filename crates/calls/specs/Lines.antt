-- What was written of a line: at most so many bytes more, in a place of the same length.
use Rattle.std.specs.Prelude.{◌≡◌, ℕ, ◌+◌, ◌≤◌, length}
use Rattle.text.specs.declared.printing.Text.{Text}

pub record Within (most : ℕ) (before after : Text) : Type 0 where
  pub short : after.end ≤ before.end + most
  pub kept : length after.place.now ≡ length before.place.now
