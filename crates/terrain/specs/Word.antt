-- The words of a rectangle. Document 01, "Bytes of a file". Assumes nothing.
use Rattle.std.specs.Prelude.{List, ℕ, ◌/◌, ◌%◌}
use Rattle.index.specs.Bytes.{nth, record_bytes}
use Rattle.terrain.specs.Record.{entry}

-- the surface code of a word; house: a word is 8192 x surface code + elevation
abbrev pub code_of : ℕ → ℕ
code_of word = word / 8192

-- the elevation of a word: 0 to 8190 is metres, 8191 means no height
abbrev pub elevation_of : ℕ → ℕ
elevation_of word = word % 8192

-- word w of rectangle n, counted from 1: the w-th number of the rectangle's record
abbrev pub word_of : List ℕ → ℕ → ℕ → ℕ
word_of file n w = nth (record_bytes file (entry file n)) w
