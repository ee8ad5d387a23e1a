-- The reading of a point. Document 01, "A reading" and "The numbers we say no with". Assumes nothing.
use Rattle.std.specs.Prelude.{List, ℕ}
use Rattle.ground.specs.Outcome.{Outcome, given, unless, ◌and_then◌, refusal_number, refusal_place, filled_by}
use Rattle.ground.specs.declared.point.Point.{Point}
use Rattle.terrain.specs.Check.{highest_of, checked}
use Rattle.terrain.specs.Record.{record_in, vouched}
use Rattle.terrain.specs.declared.check.Terrain.{Terrain}
use Rattle.terrain.specs.declared.record.Taken.{Taken}
use Rattle.reading.specs.Corner.{Corners, corners_of, any_lacks_height, exact_height}
use Rattle.reading.specs.Vote.{vote}
use Rattle.reading.specs.declared.point.Reading.{Reading}
use Rattle.reading.specs.declared.point.ReadAnswer.{ReadAnswer}

-- refusal 6, else the exact height and the surface code of the four corners
unfoldable pub read_corners : Corners → Outcome Reading
read_corners c = unless (any_lacks_height c) 6 (given (record { height = exact_height c; code = vote c }))

-- the reading from the record taken
unfoldable pub read_taken : List ℕ → Taken → Outcome Reading
read_taken file t = read_corners (corners_of file t)

-- a point of a file that was opened: 4, then 5 or, for an entry that names no record, 3, which cannot both hold, then 6, else the reading
unfoldable pub spot_in : List ℕ → Terrain → Point → Outcome Reading
spot_in file t p = record_in file t p and_then vouched (highest_of t) and_then read_taken file

-- a point of a checked file: 4 and 5 for its record, then 6, else the reading
unfoldable pub point_in : List ℕ → Terrain → Point → Outcome Reading
point_in file t p = record_in file t p and_then read_taken file

-- the reading of a point: 1, 2, 3 for the file, then the point in it
unfoldable pub reading : List ℕ → ℕ → ℕ → Point → Outcome Reading
reading file b z p = checked file b z and_then λ t. point_in file t p

-- the answer to a point as the caller gets it, of a reading, of a spot and of each point of a survey
abbrev pub read_answer : Outcome Reading → ReadAnswer
read_answer o =
    let r : Reading = filled_by (record { height = 0; code = 0 }) o in
    record {
      refusal = refusal_number o;
      place = refusal_place o;
      height = r.height;
      code = r.code;
    }
