-- Fields: bits h..l of a register, as the sheets write them, and what putting a value into one makes of the register's byte.
use Rattle.std.specs.Prelude.{ℕ, zero, suc, ◌+◌, ◌-◌, ◌*◌, ◌/◌, ◌%◌, ◌^◌}
use Rattle.std.specs.Int.Bits.{bit_and, bit_or}

pub record Field : Type 0 where
  pub register : ℕ
  pub high : ℕ
  pub low : ℕ

-- bits h..l of a register
abbrev pub bits : ℕ → ℕ → ℕ → Field
bits r h l = record { register = r; high = h; low = l }

-- a single bit of a register
abbrev pub bit : ℕ → ℕ → Field
bit r n = bits r n n

-- how many bits the field has
abbrev pub width : Field → ℕ
width f = f.high + 1 - f.low

-- ones in the field
abbrev pub mask : Field → ℕ
mask f = 2 ^ (width f + f.low) - 2 ^ f.low

-- ones in the rest of the byte
abbrev pub others : Field → ℕ
others f = 255 - mask f

-- a value moved up by k bits
abbrev pub up : ℕ → ℕ → ℕ
up zero v = v
up (suc k) v = v * 2 ^ suc k

-- a value in the field's place
abbrev pub at : Field → ℕ → ℕ
at f v = up f.low v

-- the value that the field holds in a byte
abbrev pub get : Field → ℕ → ℕ
get f b = b / 2 ^ f.low % 2 ^ width f

-- what a byte becomes: the bits under `keep` stay, and `new` stands beside them
abbrev pub replaced : ℕ → ℕ → ℕ → ℕ
replaced keep new b = bit_or (bit_and keep b) new

-- a value put into the field, with the rest of the byte as it was
abbrev pub put : Field → ℕ → ℕ → ℕ
put f v b = replaced (others f) (at f v) b
