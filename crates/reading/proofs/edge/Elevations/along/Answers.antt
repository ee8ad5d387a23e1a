-- `Elevations::along` meets its contract: the height between the two elevations fits. Assumes nothing.
use native.Mathlib.Omega.{arith}
use Rattle.reading.proofs.Laws.Edge.{between_most}
use Rattle.reading.proofs.edge.Elevations.along.Goals as goal

pub between-requires : goal.between-requires
between-requires c =
    let h = c.requires in
    (h.1, omega (arith, between_most _ _ _ 8191 h.1 h.0.first h.0.second))
