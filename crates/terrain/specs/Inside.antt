-- What functions of this crate and of the reading ask of each other and tell each other, on the way to the promises. A reader of the promises may
-- pass over this file. Assumes nothing.
use Rattle.std.specs.Prelude.{◌≡◌, Bool, cond, not, List, ℕ, ◌*◌, ◌≤◌, ◌<◌, length}
use Rattle.ground.specs.Outcome.{Outcome, given, unless}
use Rattle.ground.specs.Ground.{rows_of}
use Rattle.ground.specs.Place.{weights_of, words_of, AtEach}
use Rattle.ground.specs.declared.Ground.{Ground}
use Rattle.ground.specs.declared.place.Place.{Place}
use Rattle.index.specs.Bytes.{index_bytes}
use Rattle.index.specs.Index.{highest, highest_passes, index_passes}
use Rattle.terrain.specs.Check.{terrain_of}
use Rattle.terrain.specs.Record.{entry}
use Rattle.terrain.specs.declared.check.Terrain.{Terrain}
use Rattle.terrain.specs.declared.record.Taken.{Taken}

-- the last step of opening a file, on the ground of its base and zone: refusal 3 for M outside its range, else the file's ground and M
unfoldable pub opened_on : List ℕ → Ground → Outcome Terrain
opened_on file g = unless (not (highest_passes file)) 3 (given (terrain_of g (highest file)))

-- the last step of the check, of a file that was opened: refusal 3, else what is known of it
unfoldable pub checked_on : List ℕ → Terrain → Outcome Terrain
checked_on file t = unless (not (index_passes file (rows_of t.ground))) 3 (given t)

-- the index lies in the file, and n is the number of a position of it, or 0
abbrev pub InIndex : List ℕ → ℕ → Type 0
InIndex file n = (n < 3072) × (index_bytes ≤ length file)

-- what the index says of rectangle n where the test holds, else 0
abbrev pub entry_where : List ℕ → Bool → ℕ → ℕ
entry_where file c n = cond c (entry file n) 0

-- fx and fy are below 500, and the weights are those of a point that far past the south-west corner
pub record Measured (s : Place) : Type 0 where
  pub x : s.fx.0 ≤ 499
  pub y : s.fy.0 ≤ 499
  pub weights : s.weights ≡ weights_of s.fx s.fy

-- The record that a point is read from lies in the file past the index, the corners that weigh in are words of it, and the place has its own weights.
pub record Reaches (file : List ℕ) (t : Taken) : Type 0 where
  pub past : 7 ≤ t.entry
  pub recorded : 1024 * t.entry ≤ length file
  pub words : AtEach (λ w weight. (1 ≤ w) × (0 < weight → w ≤ 512)) (words_of t.place) t.place.weights
  pub measured : Measured t.place
