-- What records set: the byte at each address that one of them has.
use Rattle.std.specs.Prelude.{Bool, false, cond, ◌&&◌, ◌||◌, List, [], ◌∷◌, ℕ, zero, suc, ◌+◌, ◌-◌, leb, ltb, length, get_or}
use Rattle.intel_hex.specs.Record.{Record, address}

-- the record has a byte for this address
abbrev pub has : Record → ℕ → Bool
has r a = leb (address r) a && ltb a (address r + length r.bytes)

abbrev pub set_by : List Record → ℕ → Bool
set_by [] a = false
set_by (r ∷ rs) a = has r a || set_by rs a

-- the byte that they set there, 0 where none does
abbrev pub value_in : List Record → ℕ → ℕ
value_in [] a = 0
value_in (r ∷ rs) a = cond (has r a) (get_or r.bytes (a - address r) 0) (value_in rs a)

-- a value for each of n addresses from a on
abbrev pub each : (ℕ → ℕ) → ℕ → ℕ → List ℕ
each f a zero = []
each f a (suc n) = f a ∷ each f (suc a) n

-- an image has 128 registers
unfoldable pub image_of : List Record → List ℕ
image_of rs = each (value_in rs) 0 128
