-- Whole programming, in the Rust's order, leaves the image that writing each place of the page once leaves.
-- Assumes nothing.
use mathlib.Core.Path.{◌≡◌, ap, ap₂, ◌∙◌}
use mathlib.Core.Bool.{Bool, true, false}
use mathlib.Core.List.{List}
use Prim.Native.Nat.{ℕ, ◌+◌, ◌*◌, ◌/◌, ◌%◌, ◌≤◌, ◌<◌}
use native.Mathlib.Omega.{arith}
use lib.Dec.{T}
use lib.ListN.{get_or, set}
use lib.Bits.{bit_and, bit_or, and_comm, and_mask, and_high, or_shifted_r}
use Rattle.sheets.specs.declared.Variant.{Variant}
use Rattle.sheets.specs.declared.Variant.TheVariants.{Sx1272, Sx1276}
use Rattle.sheets.specs.Bits.{replaced}
use Rattle.sheets.specs.Modem.{bandwidth_code}
use Rattle.sheets.proofs.Modem.{optimize_le, code_76, code_72}
use Rattle.sheets.proofs.Sweep.{equal, equal₂, equal₃}
use Rattle.params.specs.declared.mod_params.Link.{Link}
use Rattle.params.specs.declared.board.Board.{Board}
use Rattle.bus.specs.Steps.{image_after}
use Rattle.operations.specs.Programming.{programming}
use Rattle.page.specs.Page.{Image, program}
use Rattle.page.specs.Links.{accepted}
use Rattle.page.specs.Lora.{flag_of, page, page_of}
use Rattle.page.proofs.Acceptance.{Ranges, ranges}
use Rattle.page.proofs.Cells.{cells, by_cells}

-- ---- bytes that are written more than once

module _ (v : ℕ) where
  low_nibble : bit_and 15 v ≡ v % 16
  low_nibble = and_comm 15 v ∙ and_mask v 4

  -- SX1276, RegModemConfig1: code k, then coding rate c, then header i
  config_1_76 : (k c i : ℕ) → k ≤ 9 → c ≤ 4 → i ≤ 1 → replaced 254 i (replaced 241 (c * 2) (replaced 15 (k * 16) v)) ≡ k * 16 + c * 2 + i
  config_1_76 k c i hk hc hi =
      rw (
        low_nibble,
        or_shifted_r k 4 (v % 16) (omega arith),
        equal₂ 160 5 (λ x c. replaced 241 (c * 2) x) (λ x c. x / 16 * 16 + c * 2 + x % 2) tt (k * 16 + v % 16) c (omega arith) (omega arith),
        equal₂ 256 2 (λ y f. replaced 254 f y) (λ y f. y / 2 * 2 + f) tt ((k * 16 + v % 16) / 16 * 16 + c * 2 + (k * 16 + v % 16) % 2) i (omega arith) (omega arith),
      )
      (omega arith)

  -- SX1276, RegModemConfig2: spreading factor s, then CRC r
  config_2_76 : (s r : ℕ) → s ≤ 12 → r ≤ 1 → v < 256 → replaced 251 (r * 4) (replaced 15 (s * 16) v) ≡ replaced 11 (s * 16 + r * 4) v
  config_2_76 s r hs hr hv =
      rw (low_nibble, equal 0 256 (bit_and 11) (λ v. bit_and 11 (v % 16)) tt v (omega arith) (omega arith))
      (equal₃ 16 13 2 (λ n s r. replaced 251 (r * 4) (bit_or n (s * 16))) (λ n s r. replaced 11 (s * 16 + r * 4) n) tt (v % 16) s r (omega arith) (omega arith) (omega arith))

  -- SX1272, RegModemConfig1: code k, coding rate c and flag o, then header i and CRC r
  config_1_72 : (k c o i r : ℕ) → k ≤ 2 → c ≤ 4 → o ≤ 1 → i ≤ 1 → r ≤ 1
      → replaced 249 (i * 4 + r * 2) (replaced 6 (k * 64 + c * 8 + o) v) ≡ k * 64 + c * 8 + i * 4 + r * 2 + o
  config_1_72 k c o i r hk hc ho hi hr =
      let w = k * 8 + c in
      let q = v / 2 % 4 in
      let grouped : k * 64 + c * 8 + o ≡ w * 8 + o = omega arith in
      rw (
        and_comm 6 v,
        and_high v 2 1,
        grouped,
        equal₃ 4 21 2 (λ q w o. bit_or (q * 2) (w * 8 + o)) (λ q w o. w * 8 + q * 2 + o) tt q w o (omega arith) (omega arith) (omega arith),
        equal₃ 256 2 2 (λ x i r. replaced 249 (i * 4 + r * 2) x) (λ x i r. x / 8 * 8 + i * 4 + r * 2 + x % 2) tt (w * 8 + q * 2 + o) i r (omega arith) (omega arith) (omega arith),
      )
      (omega arith)

-- ---- whole programming

abbrev board : Variant → Bool → Bool → Bool → Board
board v boost tcxo rx = record { variant = v; tcxo_used = tcxo; tx_boost = boost; rx_boost = rx }

-- the bytes that it writes more than once end as the page has them
module _ (l : Link) where
  ends_76 : Ranges Sx1276 l → (x y : ℕ) → y < 256 → let k = bandwidth_code Sx1276 l.bandwidth in
      (replaced 254 l.implicit_header (replaced 241 (l.coding_rate * 2) (replaced 15 (k * 16) x)) ≡ k * 16 + l.coding_rate * 2 + l.implicit_header)
      × (replaced 251 (l.crc_on * 4) (replaced 15 (l.spreading_factor * 16) y) ≡ replaced 11 (l.spreading_factor * 16 + l.crc_on * 4) y)
  ends_76 h x y b =
      let code = code_76 l.bandwidth h.bw_to in (
        config_1_76 x (bandwidth_code Sx1276 l.bandwidth) l.coding_rate l.implicit_header (omega arith) h.cr_to h.implicit,
        config_2_76 y l.spreading_factor l.crc_on h.sf_to h.crc b,
      )

  ends_72 : Ranges Sx1272 l → (x : ℕ) → let k = bandwidth_code Sx1272 l.bandwidth in
      replaced 249 (l.implicit_header * 4 + l.crc_on * 2) (replaced 6 (k * 64 + l.coding_rate * 8 + flag_of l) x)
      ≡ k * 64 + l.coding_rate * 8 + l.implicit_header * 4 + l.crc_on * 2 + flag_of l
  ends_72 h x =
      let code = code_72 l.bandwidth h.bw_from h.bw_to in
      config_1_72 x (bandwidth_code Sx1272 l.bandwidth) l.coding_rate (flag_of l) l.implicit_header l.crc_on (omega arith) h.cr_to
      (optimize_le l.spreading_factor l.bandwidth) h.implicit h.crc

-- On an image laid out cell by cell both sides compute; they differ in the form of these bytes alone.
module _ (boost rx : Bool) (l : Link) (im : List ℕ) (I : Image im) where
  abbrev driven : Variant → Bool → List ℕ → List ℕ
  driven v tcxo = image_after (programming (board v boost tcxo rx) l)

  abbrev paged : Variant → Bool → List ℕ → List ℕ
  paged v tcxo = program (page_of v boost tcxo) l

  leaves : (v : Variant) (tcxo : Bool) → Ranges v l → driven v tcxo im ≡ paged v tcxo im
  leaves Sx1276 true h =
      let (one, two) = ends_76 l h (get_or im 0x1d 0) (get_or im 0x1e 0) (I.byte 0x1e) in
      by_cells (driven Sx1276 true) (paged Sx1276 true) im I.size (ap₂ (λ (a b : ℕ). set (set (paged Sx1276 true (cells 128 0 im)) 0x1d a) 0x1e b) one two)
  leaves Sx1276 false h =
      let (one, two) = ends_76 l h (get_or im 0x1d 0) (get_or im 0x1e 0) (I.byte 0x1e) in
      by_cells (driven Sx1276 false) (paged Sx1276 false) im I.size (ap₂ (λ (a b : ℕ). set (set (paged Sx1276 false (cells 128 0 im)) 0x1d a) 0x1e b) one two)
  leaves Sx1272 true h =
      by_cells (driven Sx1272 true) (paged Sx1272 true) im I.size (ap (set (paged Sx1272 true (cells 128 0 im)) 0x1d) (ends_72 l h (get_or im 0x1d 0)))
  leaves Sx1272 false h =
      by_cells (driven Sx1272 false) (paged Sx1272 false) im I.size (ap (set (paged Sx1272 false (cells 128 0 im)) 0x1d) (ends_72 l h (get_or im 0x1d 0)))

pub whole_programming : (b : Board) (l : Link) (im : List ℕ) → T (accepted b.variant l) → Image im → image_after (programming b l) im ≡ program (page b) l im
whole_programming b l im h I = leaves b.tx_boost b.rx_boost l im I b.variant b.tcxo_used (ranges b.variant l h)
