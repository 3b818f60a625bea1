-- What is known of a packet that nothing refuses.
-- Assumes nothing.
use Rattle.std.specs.Prelude.{Ok}
use mathlib.Core.Path.{◌≡◌, refl}
use mathlib.Core.Bool.{Bool, true, false}
use Prim.Native.Nat.{ℕ, ◌≤◌}
use native.Mathlib.Omega.{arith}
use borrow.Author.Tests.{leb-true, eqb-false, not-true}
use lib.Dec.{eqb}
use Rattle.params.specs.declared.line_faults.LineFault.{LineFault}
use Rattle.time_on_air.specs.declared.packet.Packet.{Packet}
use Rattle.time_on_air.specs.Packet.{Judged}
use Rattle.time_on_air.specs.Packet.{unless, sheet_fault, flag_fault, code_fault, packet_fault, Counts}

pub passed : (t : Bool) (f : LineFault) (next : Judged) → unless t f next ≡ Ok tt → (t ≡ true) × (next ≡ Ok tt)
passed true f next h = (refl, h)
passed false f next h = (cc, cc)

module _ (p : Packet) (h : packet_fault p ≡ Ok tt) where
  abbrev sf : ℕ
  sf = p.spreading_factor

  pub accepted : Counts p
  unfolding packet_fault code_fault flag_fault sheet_fault
  accepted =
      let a = passed _ _ _ h in
      let b = passed _ _ _ a.1 in
      let d = passed _ _ _ b.1 in
      let e = passed _ _ _ d.1 in
      let f = passed _ _ _ e.1 in
      let g = passed _ _ _ f.1 in
      let i = passed _ _ _ g.1 in
      let j = passed _ _ _ i.1 in
      let k = passed _ _ _ j.1 in
      let l = passed _ _ _ k.1 in
      let m = passed _ _ _ l.1 in
      let five : 5 ≤ sf = leb-true 5 sf e.0 in
      let not_five = eqb-false sf 5 (not-true (eqb sf 5) m.0) in
      record {
        id = leb-true p.id 4294967295 a.0;
        sf_low = omega arith;
        sf_high = leb-true sf 12 f.0;
        bandwidth = leb-true p.bandwidth 9 g.0;
        coding_low = leb-true 1 p.coding_rate i.0;
        coding = leb-true p.coding_rate 4 j.0;
        preamble = leb-true p.preamble 65535 b.0;
        size = leb-true p.length 255 d.0;
        header = leb-true p.implicit_header 1 k.0;
        crc = leb-true p.crc_on 1 l.0;
      }
