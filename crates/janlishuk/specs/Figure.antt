-- Document 01, "Checked figures": P1 to P12 as one list. That every entry holds is shown in proofs/Figures.antt. Assumes nothing.
use Rattle.std.specs.Prelude.{List, [], ◌∷◌}
use Rattle.ground.specs.Figure.{Figure, P1, P3, P4, P5}
use Rattle.index.specs.Figure.{P2}
use Rattle.terrain.specs.Figure.{P6}
use Rattle.reading.specs.Figure.{P7, P8}
use Rattle.path.specs.Figure.{P9}
use Rattle.link.specs.Figure.{P10}
use Rattle.plan.specs.Figure.{P11, P12}

-- document 01's twelve figures
abbrev pub figures : List Figure
figures = P1 ∷ P2 ∷ P3 ∷ P4 ∷ P5 ∷ P6 ∷ P7 ∷ P8 ∷ P9 ∷ P10 ∷ P11 ∷ P12 ∷ []
