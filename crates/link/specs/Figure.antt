-- Document 01, "Checked figures": P10. That it holds is shown in proofs/Figures.antt. Assumes nothing.
use Rattle.std.specs.Prelude.{[], ◌∷◌}
use Rattle.ground.specs.Outcome.{given}
use Rattle.ground.specs.Figure.{Figure, figure}
use Rattle.path.specs.Figure.{from_corner}
use Rattle.path.specs.declared.Path.{Path}
use Rattle.link.specs.Clear.{G}

-- Q = 100,000,000, N = 20, i = 10: G = 1471
abbrev pub P10 : Figure
P10 = let w : Path = from_corner 10000 0 in figure (given (w.q ∷ w.n ∷ G w 10 ∷ []) ∷ []) (given (100000000 ∷ 20 ∷ 1471 ∷ []) ∷ [])
