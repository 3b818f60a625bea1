-- `signal::offsets::rssi_offset` meets its contract: each arm is the definition's case, and the read-back decides the SX1276's.
use Rattle.std.proofs.Common.{◌≡◌, ℕ, ◌<◌, ◌≤◌, negsuc, arith, le-ltb, lt-ltb}
use Rattle.sheets.specs.declared.Variant.{Variant}
use Rattle.sheets.specs.declared.Variant.TheVariants.{Sx1276}
use Rattle.sheets.specs.Frequency.{read_back}
use Rattle.sheets.specs.Signal.{mid_band_threshold, offset}
use Rattle.signal.proofs.offsets.rssi_offset.Goals as goal

high_port : (v : Variant) (n : ℕ) → v ≡ Sx1276 → mid_band_threshold < read_back n → negsuc 156 ≡ offset v n
unfolding offset
high_port v n e h = rw (e, lt-ltb mid_band_threshold (read_back n) h)

low_port : (v : Variant) (n : ℕ) → v ≡ Sx1276 → read_back n ≤ mid_band_threshold → negsuc 163 ≡ offset v n
unfolding offset
low_port v n e h = rw (e, le-ltb mid_band_threshold (read_back n) h)

pub returns-in-Sx1272 : goal.returns-in-Sx1272
unfolding offset
returns-in-Sx1272 c = rw c.in-Sx1272.is

pub returns-then-hz-gt-SX1276_RF_MID_BAND_THRESH :
    goal.returns-then-hz-gt-SX1276_RF_MID_BAND_THRESH
returns-then-hz-gt-SX1276_RF_MID_BAND_THRESH c = high_port c.args.variant c.args.frf.0 c.in-Sx1276.is (omega arith)

pub returns-else-hz-gt-SX1276_RF_MID_BAND_THRESH :
    goal.returns-else-hz-gt-SX1276_RF_MID_BAND_THRESH
returns-else-hz-gt-SX1276_RF_MID_BAND_THRESH c = low_port c.args.variant c.args.frf.0 c.in-Sx1276.is (omega arith)
