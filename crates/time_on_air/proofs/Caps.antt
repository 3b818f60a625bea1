-- Numbers are told apart up to 2^32 alone, and a packet's numbers above it are all refused alike.
-- Assumes nothing.
use Rattle.std.specs.Prelude.{Ok}
use mathlib.Core.Path.{◌≡◌, refl, sym, ◌∙◌, ap}
use mathlib.Core.Logic.{⊎_elim}
use mathlib.Core.Bool.{true, false}
use mathlib.Core.List.{List, [], ◌∷◌}
use Prim.Native.Nat.{ℕ, zero, suc, ◌≤◌, ◌<◌, min}
use native.Mathlib.Omega.{arith}
use borrow.Author.Tests.{leb-true, leb-false, le-leb, lt-leb, eqb-true, eqb-false, eq-eqb, ne_eqb}
use lib.Dec.{leb, eqb}
use lib.ListN.{get_or}
use Rattle.time_on_air.specs.declared.packet.Packet.{Packet}
use Rattle.time_on_air.specs.Packet.{sheet_fault, flag_fault, code_fault, packet_fault, Counts}
use Rattle.time_on_air.specs.Lines.{packet_of}
use Rattle.text.proofs.reading.Tests.{decided}
use Rattle.time_on_air.proofs.packet.Accepted.{accepted}

abbrev pub cap : ℕ → ℕ
cap n = min n 4294967296

abbrev pub caps : List ℕ → List ℕ
caps [] = []
caps (n ∷ ns) = cap n ∷ caps ns

-- ---- a test against a number below 2^32

at_most : (n k : ℕ) → k < 4294967296 → leb (cap n) k ≡ leb n k
at_most n k l =
    ⊎_elim
    (λ (e : leb n k ≡ true). let h = leb-true n k e in le-leb (cap n) k (omega arith) ∙ sym e)
    (λ (e : leb n k ≡ false). let h = leb-false n k e in lt-leb (cap n) k (omega arith) ∙ sym e)
    (decided (leb n k))

at_least : (n k : ℕ) → k < 4294967296 → leb k (cap n) ≡ leb k n
at_least n k l =
    ⊎_elim
    (λ (e : leb k n ≡ true). let h = leb-true k n e in le-leb k (cap n) (omega arith) ∙ sym e)
    (λ (e : leb k n ≡ false). let h = leb-false k n e in lt-leb k (cap n) (omega arith) ∙ sym e)
    (decided (leb k n))

just : (n k : ℕ) → k < 4294967296 → eqb (cap n) k ≡ eqb n k
just n k l =
    ⊎_elim
    (λ (e : eqb n k ≡ true). let h = eqb-true n k e in eq-eqb (cap n) k (omega arith) ∙ sym e)
    (λ (e : eqb n k ≡ false). let h = eqb-false n k e in ne_eqb (cap n) k (λ i. h (omega arith)) ∙ sym e)
    (decided (eqb n k))

-- ---- a packet

abbrev pub capped : Packet → Packet
capped p =
    record {
      id = cap p.id;
      spreading_factor = cap p.spreading_factor;
      bandwidth = cap p.bandwidth;
      coding_rate = cap p.coding_rate;
      preamble = cap p.preamble;
      length = cap p.length;
      implicit_header = cap p.implicit_header;
      crc_on = cap p.crc_on;
    }

capped_fault : (p : Packet) → packet_fault (capped p) ≡ packet_fault p
unfolding packet_fault code_fault flag_fault sheet_fault
capped_fault p =
    let sf = p.spreading_factor in
    let ih = p.implicit_header in
    rw (at_most p.id 4294967295 (omega arith), at_most p.preamble 65535 (omega arith), at_most p.length 255 (omega arith), at_least sf 5 (omega arith), at_most sf 12 (omega arith), at_most p.bandwidth 9 (omega arith), at_least p.coding_rate 1 (omega arith), at_most p.coding_rate 4 (omega arith), at_most ih 1 (omega arith), at_most p.crc_on 1 (omega arith), just sf 5 (omega arith), just sf 6 (omega arith), just ih 0 (omega arith))

small : (n k : ℕ) → n ≤ k → k < 4294967296 → cap n ≡ n
small n k h l = omega arith

capped_same : (p : Packet) → Counts p → capped p ≡ p
capped_same p c =
    rw (small p.id 4294967295 c.id (omega arith), small p.spreading_factor 12 c.sf_high (omega arith), small p.bandwidth 9 c.bandwidth (omega arith), small p.coding_rate 4 c.coding (omega arith), small p.preamble 65535 c.preamble (omega arith), small p.length 255 c.size (omega arith), small p.implicit_header 1 c.header (omega arith), small p.crc_on 1 c.crc (omega arith))

-- ---- packets whose numbers are the same up to 2^32

get_or_caps : (ns : List ℕ) (k : ℕ) → get_or (caps ns) k 0 ≡ cap (get_or ns k 0)
get_or_caps [] zero = refl
get_or_caps [] (suc k) = refl
get_or_caps (n ∷ ns) zero = refl
get_or_caps (n ∷ ns) (suc k) = get_or_caps ns k

packet_caps : (ns : List ℕ) → packet_of (caps ns) ≡ capped (packet_of ns)
packet_caps ns =
    rw (get_or_caps ns 0, get_or_caps ns 1, get_or_caps ns 2, get_or_caps ns 3, get_or_caps ns 4, get_or_caps ns 5, get_or_caps ns 6, get_or_caps ns 7)

module _ (ns ms : List ℕ) (e : caps ns ≡ caps ms) where
  same_capped : capped (packet_of ns) ≡ capped (packet_of ms)
  same_capped = sym (packet_caps ns) ∙ ap packet_of e ∙ packet_caps ms

  pub same_fault : packet_fault (packet_of ns) ≡ packet_fault (packet_of ms)
  same_fault = sym (capped_fault (packet_of ns)) ∙ ap packet_fault same_capped ∙ capped_fault (packet_of ms)

  pub same_packet : packet_fault (packet_of ms) ≡ Ok tt → packet_of ns ≡ packet_of ms
  same_packet f =
      sym (capped_same (packet_of ns) (accepted (packet_of ns) (same_fault ∙ f)))
      ∙ same_capped
      ∙ capped_same (packet_of ms) (accepted (packet_of ms) f)
