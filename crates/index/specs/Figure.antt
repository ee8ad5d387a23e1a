-- Document 01, "Checked figures": P2. That it holds is shown in proofs/Figures.antt. Assumes nothing.
use Rattle.std.specs.Prelude.{◌+◌, [], ◌∷◌}
use Rattle.ground.specs.Outcome.{given}
use Rattle.ground.specs.Place.{word}
use Rattle.ground.specs.Figure.{Figure, figure, numbers_at, n}
use Rattle.index.specs.Bytes.{position_byte}

-- rectangle 50, word 1, position at bytes 98 and 99
abbrev pub P2 : Figure
P2 =
    figure
    (numbers_at (λ s. n s ∷ word s ∷ position_byte (n s) ∷ (position_byte (n s) + 1) ∷ []) 500000 4433000 ∷ [])
    (given (50 ∷ 1 ∷ 98 ∷ 99 ∷ []) ∷ [])
