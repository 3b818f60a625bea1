-- `figures::starred_figures` meets its contract: the table is right, row by row.
use Rattle.figures.proofs.Table.{starred_figures}
use Rattle.figures.proofs.starred_figures.Goals as goal

pub returns : goal.returns
returns c = starred_figures
