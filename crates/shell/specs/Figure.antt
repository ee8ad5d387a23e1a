-- Document 02, request e), "A whole session, over flat bare ground at 100 m in rectangle 50": E1. That it holds is shown in proofs/Figures.antt.
-- Assumes nothing.
use Rattle.std.specs.Prelude.{cond, ◌&&◌, List, [], ◌∷◌, ◌++◌, ℕ, zero, suc, ◌+◌, ◌*◌, ◌/◌, ◌%◌, eqb, set, replicate}
use Rattle.ground.specs.Figure.{Figure}
use Rattle.lines.specs.Spell.{ascii}
use Rattle.shell.specs.Session.{unreadable, holds, Folder, session}

-- lines as bytes, each ended by a line feed
abbrev pub ended : List (List ℕ) → List ℕ
ended [] = []
ended (line ∷ lines) = line ++ (10 ∷ ended lines)

-- the bytes of n words of bare ground (code 2) at 100 m
unfoldable pub flat_words : ℕ → List ℕ
flat_words zero = []
flat_words (suc n) = (8192 * 2 + 100) / 256 ∷ (8192 * 2 + 100) % 256 ∷ flat_words n

-- the bytes of an index in which rectangle 50 has record 7, and no other has one: M, in position 3072, is 7
unfoldable pub flat_index : List ℕ
flat_index = set (set (replicate 6144 0) 99 7) 6143 7

-- the file: its index, and record 7, all of whose 512 words are flat bare ground at 100 m
unfoldable pub flat : List ℕ
flat = flat_index ++ flat_words 512

-- a folder that holds this file under the name of base 40 and zone 17, and nothing else
abbrev pub folder : Folder
folder base zone = cond (eqb base 40 && eqb zone 17) (holds flat) unreadable

-- document 02's session, a line each: the input
abbrev pub input : List (List ℕ)
input =
    ascii "use NK17"
    ∷ ascii "site A1 500000 4433000"
    ∷ ascii "site B1 501000 4433000"
    ∷ ascii "path A1 B1"
    ∷ ascii "masts A1 B1 100 100"
    ∷ ascii "masts A1 B1;x 1 1"
    ∷ []

-- and the output
abbrev pub output : List (List ℕ)
output = ascii "use 40 17" ∷ ascii "site 1" ∷ ascii "site 2" ∷ ascii "path 2 blocked" ∷ ascii "masts 0 1" ∷ ascii "bad 12" ∷ []

-- the session with this folder goes from the input to the output
abbrev pub E1 : Figure
E1 = record { Value = List ℕ; computed = session folder (ended input); said = ended output }
