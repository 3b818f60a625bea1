-- A board, as one number of flags.
use Rattle.std.specs.Prelude.{Bool, true, false, ℕ, ◌/◌, ◌%◌, ◌^◌, eqb}
use Rattle.sheets.specs.declared.Variant.{Variant}
use Rattle.sheets.specs.declared.Variant.TheVariants.{Sx1272, Sx1276}
use Rattle.params.specs.declared.board.Board.{Board}

abbrev pub bit : ℕ → ℕ → Bool
bit n flags = eqb (flags / 2 ^ n % 2) 1

abbrev pub variant_of : Bool → Variant
variant_of true = Sx1276
variant_of false = Sx1272

-- 1 the SX1276, 2 TCXO, 4 tx_boost, 8 rx_boost; other bits are not looked at, so that every number is a board
abbrev pub board_of : ℕ → Board
board_of flags = record { variant = variant_of (bit 0 flags); tcxo_used = bit 1 flags; tx_boost = bit 2 flags; rx_boost = bit 3 flags }
