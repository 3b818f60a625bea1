-- The words that say a board on a command line.
use Rattle.std.specs.Prelude.{cond, List, [], ◌∷◌, ℕ, Option, Some, None}
use Rattle.text.specs.Words.{ascii, alike}
use Rattle.board_words.specs.declared.words.Word.{Word}
use Rattle.board_words.specs.declared.words.Word.TheVariants.{Sx1272, Sx1276, Tcxo, Boost, RxBoost}

-- a word and what it means
abbrev pub table : List (List ℕ × Word)
table =
    (ascii "1272", Sx1272) ∷ (ascii "1276", Sx1276) ∷ (ascii "tcxo", Tcxo) ∷ (ascii "boost", Boost) ∷ (ascii "rxboost", RxBoost) ∷ []

abbrev pub found : List ℕ → List (List ℕ × Word) → Option Word
found s [] = None
found s ((name, meaning) ∷ rest) = cond (alike s name) (Some meaning) (found s rest)

unfoldable pub word_of : List ℕ → Option Word
word_of s = found s table
