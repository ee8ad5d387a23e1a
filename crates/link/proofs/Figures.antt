-- P10 holds: it computes to what document 01 says. Assumes nothing.
use mathlib.Core.Path.{refl}
use mathlib.Core.List.{[], ◌∷◌}
use Rattle.ground.specs.Figure.{AllHold}
use Rattle.path.specs.First.{first_from}
use Rattle.path.specs.Path.{Q, N}
use Rattle.link.specs.Clear.{G}
use Rattle.link.specs.Figure.{P10}

pub figures : AllHold (P10 ∷ [])
unfolding Q first_from N G
figures = (refl, tt)
