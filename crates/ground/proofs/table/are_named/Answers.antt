-- `are_named` meets its contract: what `is_base` and `is_zone` say. Assumes nothing.
use Rattle.ground.specs.Boundary.{named}
use Rattle.ground.proofs.table.are_named.Goals as goal

pub returns : goal.returns
unfolding named
returns c = rw (c.is_base.ensures, c.is_zone.ensures)
