-- `time_on_air::symbols::quarter_chips` meets its contract: the shift loses nothing.
use Rattle.std.proofs.Common.{◌≡◌, ◌*◌, ◌%◌, ◌^◌, refl}
use lib.Dec.{lit<}
use Rattle.sheets.proofs.Modem.{chips_fit}
use Rattle.time_on_air.specs.Symbols.{quarter_chips}
use Rattle.time_on_air.proofs.symbols.Bounds.{chips_bound}
use Rattle.time_on_air.proofs.symbols.quarter_chips.Goals as goal

pub returns : goal.returns
unfolding quarter_chips
returns c =
    let p = c.args.p in
    let sf = p.spreading_factor in
    let e : c.quarter_symbols.result * (1 * 2 ^ sf % 18446744073709551616) ≡ quarter_chips p =
    rw (chips_fit sf 18446744073709551616 c.requires.sf_high (lit< tt), c.quarter_symbols.ensures.0) refl in
    (e, rw e (chips_bound p c.requires))
