-- Arguments: whether a text has an operation's, and what they are.
use Rattle.std.specs.Prelude.{Bool, cond, ◌&&◌, List, [], ◌∷◌, ℕ, suc, ◌+◌, ◌-◌, eqb, ℤ, pos, length, is_ok}
use Rattle.std.specs.Result.{result_unwrap_or}
use Rattle.text.specs.Decimal.{number_of, signed_of}
use Rattle.text.specs.Fields.{count_of, field_at}
use Rattle.text.specs.Words.{ascii, alike}
use Rattle.commands.specs.declared.signatures.Kind.{Kind}
use Rattle.commands.specs.declared.signatures.Kind.TheVariants.{Byte, Word, Hertz, Count, Power}
use Rattle.commands.specs.Operations.{power, most}

-- a text says a number up to any bound; one up to a power's may be as far below zero too
unfoldable pub of_most : ℕ → List ℕ → Bool
of_most most s = cond (eqb most power) (is_ok (signed_of s)) (is_ok (number_of most s))

-- a text says a number of a kind
abbrev pub of_kind : Kind → List ℕ → Bool
of_kind Power s = is_ok (signed_of s)
of_kind Byte s = is_ok (number_of (most Byte) s)
of_kind Word s = is_ok (number_of (most Word) s)
of_kind Hertz s = is_ok (number_of (most Hertz) s)
of_kind Count s = is_ok (number_of (most Count) s)

-- the first argument from number i on that is not of its kind, or their count; argument 0 stands in field `first`, and a field
-- that is missing is empty
abbrev pub misfit_from : ℕ → ℕ → List ℕ → ℕ → List Kind → ℕ
misfit_from parting first s i [] = i
misfit_from parting first s i (k ∷ ks) = cond (of_kind k (field_at parting (i + first) s)) (misfit_from parting first s (suc i) ks) i

-- parted by one space, as many as there are kinds and none a misfit; `-` for none
unfoldable pub fit : List Kind → List ℕ → Bool
fit ks s =
    cond (eqb (length ks) 0) (alike s (ascii "-"))
    (eqb (count_of 32 s) (length ks - 1) && eqb (misfit_from 32 0 s 0 ks) (length ks))

-- argument i of those that a byte parts, 0 where there is none of the kind
unfoldable pub argument : ℕ → ℕ → List ℕ → ℕ → ℕ
argument most parting s i = result_unwrap_or (number_of most (field_at parting i s)) 0

unfoldable pub signed_argument : ℕ → List ℕ → ℕ → ℤ
signed_argument parting s i = result_unwrap_or (signed_of (field_at parting i s)) (pos 0)
