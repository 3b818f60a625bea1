-- The words of a command line.
use Rattle.std.specs.Prelude.{◌≡◌, ◌≤◌, List, length, slice_index, ℕ}

-- begins with a dash, and has more behind it
abbrev pub IsOption : List ℕ → Type 0
IsOption word = (2 ≤ length word) × (slice_index word 0 ≡ 45)
