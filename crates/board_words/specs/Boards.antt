-- Boards by words: the variant, and what is added to it.
use Rattle.std.specs.Prelude.{Bool, true, false, Option, Some, None}
use Rattle.sheets.specs.declared.Variant.{Variant}
use Rattle.sheets.specs.declared.Variant.TheVariants.{Sx1272, Sx1276}
use Rattle.params.specs.declared.board.Board.{Board}
use Rattle.board_words.specs.declared.words.Word.{Word}
use Rattle.board_words.specs.declared.words.Word.TheVariants as word

abbrev pub board : Variant → Bool → Bool → Bool → Board
board v tcxo boost rx = record { variant = v; tcxo_used = tcxo; tx_boost = boost; rx_boost = rx }

abbrev pub plain : Board
plain = board Sx1276 false false false

-- what a word makes of a board: its own field is new, the others stay
abbrev pub worded : Board → Option Word → Option Board
worded b (Some word.Sx1272) = Some (board Sx1272 b.tcxo_used b.tx_boost b.rx_boost)
worded b (Some word.Sx1276) = Some (board Sx1276 b.tcxo_used b.tx_boost b.rx_boost)
worded b (Some word.Tcxo) = Some (board b.variant true b.tx_boost b.rx_boost)
worded b (Some word.Boost) = Some (board b.variant b.tcxo_used true b.rx_boost)
worded b (Some word.RxBoost) = Some (board b.variant b.tcxo_used b.tx_boost true)
worded b None = None
