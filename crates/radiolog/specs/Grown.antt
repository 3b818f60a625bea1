-- A text that grew, in a place as long as it was.
use Rattle.std.specs.Prelude.{◌≡◌, ℕ, ◌+◌, ◌≤◌, length}
use Rattle.text.specs.declared.printing.Text.{Text}

-- by n bytes at the most
abbrev pub Grown : ℕ → Text → Text → Type 0
Grown n before after = (length after.place.now ≡ length before.place.now) × (after.end ≤ before.end + n)
