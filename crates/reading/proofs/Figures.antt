-- P7 and P8 hold: each computes to what document 01 says. Assumes nothing.
use mathlib.Core.Path.{refl}
use mathlib.Core.List.{[], ◌∷◌}
use lib.Ieee.{div, of_int}
use Rattle.ground.specs.Boundary.{y_b, rows}
use Rattle.ground.specs.Ground.{on_ground, holds}
use Rattle.ground.specs.Place.{weights_of, place_at, place_of}
use Rattle.ground.specs.Figure.{AllHold}
use Rattle.index.specs.Bytes.{nth}
use Rattle.reading.specs.Corner.{corner, corners_at, any_lacks_height, exact_height}
use Rattle.reading.specs.Vote.{sum_for, greatest, vote}
use Rattle.reading.specs.Reading.{read_corners}
use Rattle.reading.specs.Engine.{metres_of}
use Rattle.reading.specs.Figure.{P7, P8}

pub figures : AllHold (P7 ∷ P8 ∷ [])
unfolding div of_int y_b rows on_ground holds weights_of place_at place_of nth corner corners_at any_lacks_height exact_height sum_for greatest vote read_corners metres_of
figures = (refl, (refl, tt))
