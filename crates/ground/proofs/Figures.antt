-- P1, P3, P4 and P5 hold: each computes to what document 01 says. Assumes nothing.
use mathlib.Core.Path.{refl}
use mathlib.Core.List.{[], ◌∷◌}
use Rattle.ground.specs.Boundary.{y_b, rows, named}
use Rattle.ground.specs.Ground.{on_ground, holds}
use Rattle.ground.specs.Place.{weights_of, place_at, place_of}
use Rattle.ground.specs.Figure.{AllHold, P1, P3, P4, P5}

pub figures : AllHold (P1 ∷ P3 ∷ P4 ∷ P5 ∷ [])
unfolding y_b rows named on_ground holds weights_of place_at place_of
figures = (refl, (refl, (refl, (refl, tt))))
