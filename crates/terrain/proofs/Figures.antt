-- P6 holds: it computes to what document 01 says. Assumes nothing.
use mathlib.Core.Path.{refl}
use mathlib.Core.List.{[], ◌∷◌}
use Rattle.ground.specs.Figure.{AllHold}
use Rattle.index.specs.Bytes.{nth}
use Rattle.terrain.specs.Figure.{P6}

pub figures : AllHold (P6 ∷ [])
unfolding nth
figures = (refl, tt)
