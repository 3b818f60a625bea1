-- `intel_hex::places::Held::put_record` meets its contract: each byte is put at its place.
use Rattle.std.proofs.Common.{◌≡◌, ◌+◌, ◌-◌, ◌<◌, length, Some, ap, arith, rules}
use Rattle.intel_hex.specs.Record.{address as address_of}
use Rattle.intel_hex.proofs.Over.{more}
use Rattle.intel_hex.proofs.Held.{roomy}
use Rattle.intel_hex.proofs.places.Held.put_record.Goals as goal

pub bounds-self-first : goal.bounds-self-first
bounds-self-first c =
    let r = c.args.record.now in
    let room = roomy c.args.self.now.places (address_of r) (length r.bytes) c.requires (omega (arith, c.count-i-end.ensures.0)) in
    omega (arith, c.address-first.ensures.0, c.count-i-end.ensures.0)

pub loop-i-preserved : goal.loop-i-preserved
loop-i-preserved c =
    let r = c.args.record.now in
    let first = c.address-first.result in
    let i = c.loop-i.i in
    let room = roomy c.args.self.now.places (address_of r) (length r.bytes) c.requires (omega (arith, c.count-i-end.ensures.0)) in
    let many : length c.args.self.now.places ≡ 128 = search rules in
    let back : first + i - first ≡ i = omega arith in
    let inside : first + i < length c.loop-i.self.places = omega (arith, c.loop-i.invariant.size, c.address-first.ensures.0, c.count-i-end.ensures.0) in
    more _ first _ i c.loop-i.self.places (Some c.byte.result) c.loop-i.invariant inside (rw back (ap Some c.byte.ensures))
