-- What the calls came to before document 02, request b): a point was read from its own rectangle's record alone. proofs/Seam.antt shows that what was given
-- then, and every refusal but 5, stays. Assumes nothing.
use Rattle.std.specs.Prelude.{List, ℕ}
use Rattle.ground.specs.Outcome.{Outcome, given, ◌and_then◌}
use Rattle.ground.specs.Place.{located}
use Rattle.ground.specs.declared.point.Point.{Point}
use Rattle.terrain.specs.Check.{checked}
use Rattle.terrain.specs.Record.{taken_before}
use Rattle.terrain.specs.declared.check.Terrain.{Terrain}
use Rattle.terrain.specs.declared.record.Taken.{Taken}
use Rattle.reading.specs.Reading.{read_taken}
use Rattle.reading.specs.declared.point.Reading.{Reading}
use Rattle.path.specs.Path.{path_on, sample}
use Rattle.path.specs.declared.Asked.{Asked}
use Rattle.profile.specs.Profile.{Link, profile_by}

-- the record of a point before request b): 1 to 4, then its own rectangle's record or 5
abbrev pub record_before : List ℕ → ℕ → ℕ → Point → Outcome Taken
record_before file b z p = checked file b z and_then λ t. located t.ground p and_then taken_before file

-- the reading of a point of a checked file before request b): 4 and 5 for its own rectangle's record, then 6, else the reading
abbrev pub point_before : List ℕ → Terrain → Point → Outcome Reading
point_before file t p = located t.ground p and_then taken_before file and_then read_taken file

-- the reading of a point before request b): 1, 2, 3 for the file, then the point in it
abbrev pub reading_before : List ℕ → ℕ → ℕ → Point → Outcome Reading
reading_before file b z p = checked file b z and_then λ t. point_before file t p

-- the path of a call with its profile before request b): each sample read from its own rectangle's record
abbrev pub linked_before : List ℕ → ℕ → ℕ → Asked → Outcome Link
linked_before file b z asked =
    checked file b z
    and_then λ t.
    path_on t.ground asked
    and_then λ w. profile_by (λ i. point_before file t (sample w i)) w.n and_then λ p. given (record { path = w; profile = p })
