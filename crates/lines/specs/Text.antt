-- The line that some bytes begin with. Document 02, request e): a line is ended by a line feed (10) or by the end of the input. Assumes nothing.
use Rattle.std.specs.Prelude.{cond, List, [], ◌∷◌, ℕ, eqb, drop}

-- the bytes before the first line feed, or all of them where there is none
unfoldable pub first_line : List ℕ → List ℕ
first_line [] = []
first_line (b ∷ bytes) = cond (eqb b 10) [] (b ∷ first_line bytes)

-- the line that begins at this place
abbrev pub line_at : List ℕ → ℕ → List ℕ
line_at bytes from = first_line (drop from bytes)
