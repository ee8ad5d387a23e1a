-- Document 01, "Checked figures": P6. That it holds is shown in proofs/Figures.antt. Assumes nothing.
use Rattle.std.specs.Prelude.{[], ◌∷◌, ℕ}
use Rattle.ground.specs.Outcome.{given}
use Rattle.ground.specs.Figure.{Figure, figure}
use Rattle.index.specs.Bytes.{nth}
use Rattle.terrain.specs.Word.{code_of, elevation_of}

-- bytes 96, 100 are code 3, elevation 100
abbrev pub P6 : Figure
P6 =
    let word : ℕ = nth (96 ∷ 100 ∷ []) 1 in
    figure (given (code_of word ∷ elevation_of word ∷ []) ∷ []) (given (3 ∷ 100 ∷ []) ∷ [])
