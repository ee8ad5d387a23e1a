-- `boundaries` meets its contract: the two entries of Table 1 are those of formula 1. Assumes nothing.
use Rattle.ground.proofs.Laws.Boundary.{table_span}
use Rattle.ground.proofs.table.boundaries.Goals as goal

pub returns : goal.returns
returns c = rw (c.southern.ensures, c.southern-2.ensures) (table_span c.args.k c.requires)
