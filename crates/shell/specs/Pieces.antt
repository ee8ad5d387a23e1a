-- A session whose input comes in pieces, of any sizes, split anywhere. What is kept of a line that is not ended yet is at most its first 48 bytes, one more
-- than the longest legal line has. That the output is that of the whole input is shown in proofs/Laws/Pieces.antt. Document 02, request e). Assumes nothing.
use Rattle.std.specs.Prelude.{cond, List, [], ◌∷◌, ◌++◌, ℕ, eqb, take}
use Rattle.lines.specs.Line.{reading}
use Rattle.shell.specs.Session.{State, Folder, answered, answers, lines_from}

-- one byte more than the longest legal line
abbrev pub most_kept : ℕ
most_kept = 48

-- the lines that are ended in some bytes, and what is left after the last line feed; the first line begins with these bytes
unfoldable pub ended_from : List ℕ → List ℕ → List (List ℕ)
ended_from line [] = []
ended_from line (c ∷ bytes) = cond (eqb c 10) (line ∷ ended_from [] bytes) (ended_from (line ++ (c ∷ [])) bytes)

unfoldable pub left_from : List ℕ → List ℕ → List ℕ
left_from line [] = line
left_from line (c ∷ bytes) = cond (eqb c 10) (left_from [] bytes) (left_from (line ++ (c ∷ [])) bytes)

-- the input that comes in some pieces
unfoldable pub joined : List (List ℕ) → List ℕ
joined [] = []
joined (piece ∷ pieces) = piece ++ joined pieces

-- what the shell remembers after some lines
unfoldable pub after : Folder → State → List (List ℕ) → State
after folder s [] = s
after folder s (line ∷ lines) = after folder (answered folder s (reading line)).state lines

-- The output for pieces that follow what was kept of a line: the ended lines of what was kept with the first piece, then the other pieces after what is
-- kept then; at the end of the input a line that is not empty is answered too.
unfoldable pub in_pieces : Folder → State → (kept : List ℕ) → List (List ℕ) → List ℕ
in_pieces folder s kept [] = answers folder s (lines_from kept [])
in_pieces folder s kept (piece ∷ pieces) =
    let bytes : List ℕ = kept ++ piece in
    let lines : List (List ℕ) = ended_from [] bytes in
    answers folder s lines ++ in_pieces folder (after folder s lines) (take most_kept (left_from [] bytes)) pieces
