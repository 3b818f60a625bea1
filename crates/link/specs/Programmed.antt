-- What whole programming leaves: the image of its outcome (`program_link`) wherever it is not refused.
use Rattle.std.specs.Prelude.{List, ℕ}
use Rattle.params.specs.declared.mod_params.Link.{Link}
use Rattle.params.specs.declared.board.Board.{Board}
use Rattle.bus.specs.Steps.{image_after}
use Rattle.operations.specs.Programming.{programming}

abbrev pub programmed : Board → Link → List ℕ → List ℕ
programmed b l im = image_after (programming b l) im
