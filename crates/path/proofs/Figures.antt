-- P9 holds: it computes to what document 01 says. Assumes nothing.
use mathlib.Core.Path.{refl}
use mathlib.Core.List.{[], ◌∷◌}
use Rattle.ground.specs.Figure.{AllHold}
use Rattle.path.specs.First.{first_from}
use Rattle.path.specs.Path.{Q, N, along, sample}
use Rattle.path.specs.Figure.{P9}

pub figures : AllHold (P9 ∷ [])
unfolding Q first_from N along sample
figures = (refl, tt)
