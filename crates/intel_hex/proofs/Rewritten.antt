-- Writing an image that was read gives our layout of it, and reading that gives the same image.
use Rattle.std.specs.Prelude.{Ok}
use mathlib.Core.Path.{◌≡◌, sym, subst}
use mathlib.Core.Logic.{⊎_elim}
use mathlib.Core.Bool.{true, false}
use mathlib.Core.List.{List, [], ◌∷◌}
use Prim.Native.Nat.{ℕ, ◌-◌, ◌≤◌, ◌<◌}
use native.Mathlib.Omega.{arith}
use borrow.Author.Tests.{eq-eqb, le-leb, ltb-false}
use lib.Dec.{ltb}
use lib.ListN.{length, get_or, take, drop}
use lib.Seq.{take_at}
use Rattle.text.proofs.reading.Tests.{decided, past}
use Rattle.intel_hex.specs.Record.{Record, address, fields}
use Rattle.intel_hex.specs.Places.{has}
use Rattle.intel_hex.specs.Texts.{Line, Lines, end, more, Fits, All, none, also, times, Sets}
use Rattle.intel_hex.specs.Layout.{layout, layout_size}
use Rattle.intel_hex.specs.Calls.{write_answer, write_leaves, read_answer, read_leaves}
use Rattle.intel_hex.proofs.Bytes.{Small, small_at, small_front, small_said}
use Rattle.intel_hex.proofs.Addresses.{fits_value}
use Rattle.intel_hex.proofs.Back.{layout_size_lem, read_back}
use Rattle.intel_hex.proofs.Exactly.{exactly}

-- ---- every byte that a right text sets is below 256

line_small : {r : Record} {line : List ℕ} → Line r line → Small r.bytes
line_small {r} l =
    let s : Small (fields r) = subst Small l.says (small_said l.digits) in
    small_front r.bytes (r.sum ∷ []) s.1.1.1.1

lines_small : {rs : List Record} {text : List ℕ} → Lines rs text → All (λ r. Small r.bytes) rs
lines_small (end l) = none
lines_small (more l ls) = also (line_small l) (lines_small ls)

set_small : (image : List ℕ) {rs : List Record} → All (Fits image) rs → All (λ r. Small r.bytes) rs → (a : ℕ) → 0 < times rs a → get_or image a 0 < 256
set_small image none none a h = absurd (omega arith)
set_small image (also {r} {rs} f fs) (also s ss) a h =
    ⊎_elim
    (λ (t : has r a ≡ true). rw (sym (fits_value image r f a t)) (small_at r.bytes s (a - address r)))
    (λ (t : has r a ≡ false). set_small image fs ss a (let z = rw t at h in omega arith))
    (decided (has r a))

pub sets_small : (text image : List ℕ) → Sets text image → (i : ℕ) → get_or image i 0 < 256
sets_small text image s i =
    let n = s.size in
    ⊎_elim
    (λ (t : ltb i 128 ≡ true). set_small image s.fit (lines_small s.lines) i (let o = rw t at (s.once i) in omega arith))
    (λ (t : ltb i 128 ≡ false). let l = ltb-false i 128 t in let z = past image i (omega arith) in omega arith)
    (decided (ltb i 128))

-- ---- what is written

module _ (image room : List ℕ) (size : length image ≡ 128) (space : layout_size ≤ length room) where
  writes : write_answer image (length room) ≡ Ok layout_size
  unfolding write_answer
  writes = rw (eq-eqb (length image) 128 size, le-leb layout_size (length room) space)

  written_text : take layout_size (write_leaves image room) ≡ layout image
  unfolding write_leaves
  written_text = rw writes (take_at (layout image) (drop layout_size room) layout_size (layout_size_lem image size))

pub rewritten : (text lent room : List ℕ) → length lent ≡ 128 → read_answer text (length lent) ≡ Ok tt → 364 ≤ length room
    → let image = read_leaves text lent in
    (write_answer image (length room) ≡ Ok 364)
    × (take 364 (write_leaves image room) ≡ layout image)
    × (read_answer (layout image) (length lent) ≡ Ok tt)
    × (read_leaves (layout image) lent ≡ image)
rewritten text lent room l e h =
    let image = read_leaves text lent in
    let s = exactly text lent l e in
    let b = read_back image lent s.size (sets_small text image s) l in
    (writes image room s.size h, written_text image room s.size h, b.0, b.1)
