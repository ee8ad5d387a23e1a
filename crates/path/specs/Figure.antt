-- Document 01, "Checked figures": P9. That it holds is shown in proofs/Figures.antt. Assumes nothing.
use Rattle.std.specs.Prelude.{[], ◌∷◌, ℕ, ◌+◌}
use Rattle.ground.specs.Outcome.{given}
use Rattle.ground.specs.Measure.{metres}
use Rattle.ground.specs.Figure.{Figure, figure}
use Rattle.ground.specs.declared.point.Point.{Point}
use Rattle.path.specs.Path.{path_of, sample}
use Rattle.path.specs.declared.Path.{Path}

-- zone 17: the path that leads dE metres east and dN metres north from the south-west corner of rectangle 50
abbrev pub from_corner : ℕ → ℕ → Path
from_corner dE dN =
    let at : ℕ → ℕ → Point = λ E N. record { zone = 17; easting = metres E; northing = metres N } in
    path_of (at 500000 4433000) (at (500000 + dE) (4433000 + dN))

-- dE 1000 gives N = 2; 1001 gives 3; 300 by 400 gives 1. From 500,000 to 501,001 the samples are 500,000, 500,333, 500,667, 501,001
abbrev pub P9 : Figure
P9 =
    let easting : ℕ → ℕ = λ i. (sample (from_corner 1001 0) i).easting.0 in
    figure
    (given ((from_corner 1000 0).n ∷ (from_corner 1001 0).n ∷ (from_corner 300 400).n ∷ []) ∷ given (easting 0 ∷ easting 1 ∷ easting 2 ∷ easting 3 ∷ []) ∷ [])
    (given (2 ∷ 3 ∷ 1 ∷ []) ∷ given (500000 ∷ 500333 ∷ 500667 ∷ 501001 ∷ []) ∷ [])
