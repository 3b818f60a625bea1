-- `signal::packet_rssi` meets its contract. Each sum fits, since the offset is from -200 to 0, and what is added is below 273 and at least -33.
use Rattle.std.proofs.Common.{◌≡◌, ℕ, ◌*◌, ◌/◌, ◌<◌, true, false, pos, ◌+ℤ◌, w16, arith}
use Rattle.std.proofs.lemmas.Int.{to_z-of_z, to_z_pos}
use lib.Signed.{mag, le_z}
use Rattle.sheets.specs.Signal.{snr, rssi}
use Rattle.signal.proofs.Signed16.{below, held, within, mag_sum, sum_fits}
use Rattle.signal.proofs.packet_rssi.Goals as goal

ratio_small : (raw : ℕ) → raw < 256 → mag (snr raw) < 33
ratio_small raw h = below 33 256 snr tt raw h

pub returns-then-s-ge0 : goal.returns-then-s-ge0
unfolding rssi
returns-then-s-ge0 c =
    let offset_small = within 199 c.args.offset c.requires.0 c.requires.1 in
    let sum = sum_fits c.args.offset (pos (16 * c.args.p / 15)) 200 273 offset_small (omega arith) (omega arith) in
    let above_noise : le_z (pos 0) (snr c.args.raw) ≡ true = rw (held c.snr-s.result c.snr-s.type_inv, c.snr-s.ensures) at c.if-s-ge0.true in
    rw (held c.args.offset c.ranges.offset.sfits, held c.scaled.result c.scaled.type_inv, c.scaled.ensures, to_z-of_z w16 _ sum, above_noise)

pub returns-else-s-ge0 : goal.returns-else-s-ge0
unfolding rssi
returns-else-s-ge0 c =
    let offset_small = within 199 c.args.offset c.requires.0 c.requires.1 in
    let inner = sum_fits c.args.offset (pos c.args.p) 200 256 offset_small (omega arith) (omega arith) in
    let inner_small = mag_sum c.args.offset (pos c.args.p) 200 256 offset_small (omega arith) in
    let sum = sum_fits (c.args.offset +ℤ pos c.args.p) (snr c.args.raw) 456 33 inner_small (ratio_small c.args.raw (omega arith)) (omega arith) in
    let below_noise : le_z (pos 0) (snr c.args.raw) ≡ false = rw (held c.snr-s.result c.snr-s.type_inv, c.snr-s.ensures) at c.if-s-ge0.false in
    rw (held c.args.offset c.ranges.offset.sfits, to_z_pos w16 c.args.p (omega arith), to_z-of_z w16 _ inner, held c.snr-s.result c.snr-s.type_inv, c.snr-s.ensures, to_z-of_z w16 _ sum, below_noise)
