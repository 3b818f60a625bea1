-- Words: the bytes of a text, whether each passes a test, and whether two texts are the same.
use Rattle.std.specs.Prelude.{List, [], ◌∷◌, Bool, true, false, ◌&&◌, ℕ, eqb}
use Prim.Native.Char.{code}
use Prim.Native.String.{String}
use Prim.Native.String as text

-- the bytes of a text in ASCII
abbrev pub ascii : String → List ℕ
ascii text.[] = []
ascii (text.◌∷◌ c s) = code c ∷ ascii s

-- each element of a list passes a test
abbrev pub all : (ℕ → Bool) → List ℕ → Bool
all p [] = true
all p (x ∷ s) = p x && all p s

abbrev pub alike : List ℕ → List ℕ → Bool
alike [] [] = true
alike [] (y ∷ t) = false
alike (x ∷ s) [] = false
alike (x ∷ s) (y ∷ t) = eqb x y && alike s t
