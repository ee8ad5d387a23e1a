-- Bad lines. Document 02, request e): any line that is not legal, however long, answers `bad` and the column, counted from 1, of the first byte with which no
-- legal line can begin so (one past the end if it stopped short). Assumes nothing.
use Rattle.std.specs.Prelude.{List, ◌++◌, ℕ, ◌≤◌, length, take}
use Rattle.lines.specs.Spell.{Legal}

-- some legal line begins with these bytes
pub record Begins (bytes : List ℕ) : Type 0 where
  pub rest : List ℕ
  pub legal : Legal (bytes ++ rest)

-- The line is not legal, and its first `right` bytes are the longest beginning of it with which some legal line begins. The column is one more.
pub record BadAfter (right : ℕ) (line : List ℕ) : Type 0 where
  pub illegal : Legal line → ⊥
  pub within : right ≤ length line
  pub begins : Begins (take right line)
  pub longest : (k : ℕ) → k ≤ length line → Begins (take k line) → k ≤ right
