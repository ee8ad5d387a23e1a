-- The check of a terrain file. Document 01, "Bytes of a file" and "The numbers we say no with". Assumes nothing.
use Rattle.std.specs.Prelude.{◌≡◌, not, List, ℕ, ◌+◌, ◌-◌}
use Rattle.ground.specs.Outcome.{Outcome, given, unless, ◌and_then◌, refusal_number, refusal_place, filled_by}
use Rattle.ground.specs.Boundary.{rows, named}
use Rattle.ground.specs.Ground.{ground_of}
use Rattle.ground.specs.declared.Ground.{Ground}
use Rattle.index.specs.Bytes.{whole_records}
use Rattle.index.specs.Index.{highest, highest_passes, index_passes}
use Rattle.terrain.specs.declared.check.Terrain.{Terrain}
use Rattle.terrain.specs.declared.check.CheckAnswer.{CheckAnswer}

-- what is known of a file on this ground with this M: `past`, the number of records from 7 to M, stands for M
abbrev pub terrain_of : (ground : Ground) → (M : ℕ) → Terrain
terrain_of g M = record { ground = g; past = M - 6 }

-- M of a file of which this is known
abbrev pub highest_of : Terrain → ℕ
highest_of t = 6 + t.past

-- opening a file: refusals 1, 2, and 3 for M outside its range, in that order; else its ground and M, with no other position looked at
unfoldable pub opened_file : List ℕ → ℕ → ℕ → Outcome Terrain
opened_file file b z =
    unless (not (whole_records file)) 1
    (unless (not (named b z)) 2
    (unless (not (highest_passes file)) 3
    (given (terrain_of (ground_of b z) (highest file)))))

-- refusals 1, 2, 3, in that order; a file that passes has a ground and M
unfoldable pub checked : List ℕ → ℕ → ℕ → Outcome Terrain
checked file b z =
    unless (not (whole_records file)) 1
    (unless (not (named b z)) 2
    (unless (not (index_passes file (rows b))) 3
    (given (terrain_of (ground_of b z) (highest file)))))

-- M of a file that passes, or a refusal, as C gets it
abbrev pub highest_answer : Outcome ℕ → CheckAnswer
highest_answer o = record { refusal = refusal_number o; place = refusal_place o; highest = filled_by 0 o }

-- the answer of `janlishuk_check` as the caller gets it: a check that passes answers M
abbrev pub check_answer : Outcome Terrain → CheckAnswer
check_answer o =
    record {
      refusal = refusal_number o;
      place = refusal_place o;
      highest = filled_by 0 (o and_then λ t. given (highest_of t));
    }

-- Opening the file with some base and zone gave this: what a search for a record asks for.
pub record Opens (file : List ℕ) (t : Terrain) : Type 0 where
  pub base : ℕ
  pub zone : ℕ
  pub gave : opened_file file base zone ≡ given t

-- The check gave this for the file, with some base and zone: what the calls on a checked file ask for.
pub record Gave (file : List ℕ) (t : Terrain) : Type 0 where
  pub base : ℕ
  pub zone : ℕ
  pub gave : checked file base zone ≡ given t
