-- Words at their places, one after the other.
-- Assumes nothing.
use Rattle.std.proofs.Common.{◌≡◌, refl, ℕ, ◌+◌, ◌<◌, List, [], ◌∷◌, length, get_or, drop, set, add-one, drop-cons}
use lib.IntN.{ℤ, pos, negsuc}
use Rattle.std.specs.Int.{w64, cast_unsigned}
use Rattle.params.specs.Errors.{plain}
use Rattle.results.specs.Word.{word}
use Rattle.results.specs.Results.{words, placed}

-- two's complement is the library's
pub unsigned_word : (z : ℤ) → cast_unsigned w64 z ≡ word z
unsigned_word (pos n) = refl
unsigned_word (negsuc n) = refl

-- a value that is never below zero is its own word
pub plain_words : (vs : List ℕ) → words (plain vs) ≡ vs
plain_words [] = refl
plain_words (v ∷ vs) = rw (plain_words vs)

-- one word more at its place
pub place_more : (vs xs : List ℕ) (i : ℕ) → i < length vs
    → placed (i + 1 + 1) (drop (i + 1) vs) (set xs (i + 1) (get_or vs i 0)) ≡ placed (i + 1) (drop i vs) xs
place_more vs xs i h = rw (add-one i, drop-cons vs i 0)
