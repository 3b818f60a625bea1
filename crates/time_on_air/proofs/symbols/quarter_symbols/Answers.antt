-- `time_on_air::symbols::quarter_symbols` meets its contract: bits below 0 make no symbols (`above_zero`).
use Rattle.std.proofs.Common.{◌≡◌, ◌+◌, ◌*◌, refl, arith}
use Rattle.sheets.specs.Modem.{optimize}
use Rattle.sheets.proofs.Modem.{optimize_le}
use Rattle.time_on_air.specs.Symbols.{coded_bits, quarter_symbols}
use Rattle.time_on_air.proofs.symbols.Bounds.{above_zero, symbols_bound}
use Rattle.time_on_air.proofs.symbols.quarter_symbols.Goals as goal

pub coded_symbols-coded-requires : goal.coded_symbols-coded-requires
coded_symbols-coded-requires c =
    let p = c.args.p in
    omega (arith, optimize_le p.spreading_factor p.bandwidth, c.low_data_rate_optimize-de.ensures)

pub returns : goal.returns
unfolding quarter_symbols
returns c =
    let p = c.args.p in
    let sf = p.spreading_factor in
    let bits = coded_bits sf p.length p.implicit_header p.crc_on in
    let flat = above_zero sf (optimize sf p.bandwidth) p.coding_rate bits c.requires.sf_low (optimize_le sf p.bandwidth) in
    let e : 4 * p.preamble + 17 + 4 * (8 + c.coded_symbols-coded.result) ≡ quarter_symbols p =
    rw (c.coded_symbols-coded.ensures.0, c.coded_bits-bits.ensures.0, c.low_data_rate_optimize-de.ensures, flat) refl in
    (e, rw e (symbols_bound p c.requires))
