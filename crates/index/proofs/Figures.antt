-- P2 holds: it computes to what document 01 says. Assumes nothing.
use Rattle.std.proofs.Common.{[], ◌∷◌, refl}
use Rattle.ground.specs.Boundary.{y_b, rows, named}
use Rattle.ground.specs.Ground.{on_ground, holds}
use Rattle.ground.specs.Place.{weights_of, place_at, place_of}
use Rattle.ground.specs.Figure.{AllHold}
use Rattle.index.specs.Figure.{P2}

pub figures : AllHold (P2 ∷ [])
unfolding y_b rows named on_ground holds weights_of place_at place_of
figures = (refl, tt)
