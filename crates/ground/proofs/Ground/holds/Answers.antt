-- `Ground::holds` meets its contract: the definition's tests, on the northing in units. Assumes nothing.
use Rattle.ground.specs.Ground.{on_ground, holds}
use Rattle.ground.proofs.Ground.holds.Goals as goal

pub returns : goal.returns
unfolding on_ground holds
returns c = rw c.in_units-y.ensures
