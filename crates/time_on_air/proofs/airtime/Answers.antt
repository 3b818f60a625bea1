-- `time_on_air::airtime` meets its contract: the whole text is one piece (`whatever_the_pieces`).
use Rattle.std.proofs.Common.{[], ◌∷◌, refl}
use mathlib.Core.List.{append-nil}
use Rattle.time_on_air.proofs.Pieces.{whatever_the_pieces}
use Rattle.time_on_air.proofs.airtime.Goals as goal

pub returns : goal.returns
returns c =
    let text = c.args.text.now in
    rw (append-nil text) at
    (whatever_the_pieces (text ∷ []) c.start.result c.feed.result _ _ _ c.start.ensures (c.feed.result, c.feed.ensures, refl) c.finish.ensures)
