-- The records of a file: which rectangles are covered (document 01, "Bytes of a file"), and the record that a point is read from (document 02,
-- request b). Assumes nothing.
use Rattle.std.specs.Prelude.{◌≡◌, Bool, cond, not, List, [], ◌∷◌, ℕ, eqb}
use Rattle.std.specs.Borrow.{Bor}
use Rattle.ground.specs.Outcome.{Outcome, given, refused, unless, ◌and_then◌, filled_by}
use Rattle.ground.specs.Place.{number, located}
use Rattle.ground.specs.Seam.{allowed}
use Rattle.ground.specs.declared.point.Point.{Point}
use Rattle.ground.specs.declared.place.Place.{Place}
use Rattle.index.specs.Bytes.{record_start, record_bytes, Part}
use Rattle.index.specs.Index.{position, is_record}
use Rattle.terrain.specs.Check.{checked}
use Rattle.terrain.specs.declared.check.Terrain.{Terrain}
use Rattle.terrain.specs.declared.record.Taken.{Taken}

-- what the index says of rectangle n: the number in its position, in a checked file that of its record or 0. Rectangle 0 has no position and is never covered
unfoldable pub entry : List ℕ → ℕ → ℕ
entry file n = cond (eqb n 0) 0 (position file n)

-- rectangle n is covered
abbrev pub covered : List ℕ → ℕ → Bool
covered file n = not (eqb (entry file n) 0)

-- the record of the rectangle that this place lies in, whose number is the rectangle's entry
abbrev pub record_at : List ℕ → Place → Taken
record_at file s = record { entry = entry file (number s.rectangle); place = s }

-- of these places the first whose rectangle is covered, with its record; refusal 5 where none is
unfoldable pub first_covered : List ℕ → List Place → Outcome Taken
first_covered file [] = refused 5 0
first_covered file (s ∷ rest) = cond (covered file (number s.rectangle)) (given (record_at file s)) (first_covered file rest)

-- The record that a point is read from, and where in that record's rectangle the point lies. Document 02, request b): the first covered of the allowed
-- rectangles, own, west, south, south-west; 5 when none of them is covered.
unfoldable pub taken : List ℕ → Place → Outcome Taken
taken file s = first_covered file (allowed s)

-- what was taken before request b): the own rectangle's record, or refusal 5. `taken_as_before` says where that stays
abbrev pub taken_before : List ℕ → Place → Outcome Taken
taken_before file s = unless (not (covered file (number s.rectangle))) 5 (given (record_at file s))

-- the number of the rectangle whose record is taken
abbrev pub rectangle_of : Taken → ℕ
rectangle_of t = number t.place.rectangle

-- no record is taken for a point at this place: none of the allowed rectangles is covered
abbrev pub Uncovered : List ℕ → Place → Type 0
Uncovered file s = (t : Taken) → taken file s ≡ given t → ⊥

-- a point of a file that was opened: 4 and 5 in that order, else the record that the index names for it; of a checked file, the one that it is read from
unfoldable pub record_in : List ℕ → Terrain → Point → Outcome Taken
record_in file t p = located t.ground p and_then taken file

-- the record taken, if the entry that it was taken by is that of a record, 7 to M; else refusal 3. A number in the index is not a record.
abbrev pub vouched : (M : ℕ) → Taken → Outcome Taken
vouched M t = unless (not (is_record t.entry M)) 3 (given t)

-- 1, 2, 3 for the file, then the record in it
unfoldable pub record_for : List ℕ → ℕ → ℕ → Point → Outcome Taken
record_for file b z p = checked file b z and_then λ t. record_in file t p

-- the bytes of the record as the caller gets it: none beside a refusal
abbrev pub part_bytes : List ℕ → Outcome Taken → List ℕ
part_bytes file o = filled_by [] (o and_then λ t. given (record_bytes file t.entry))

-- where in the caller's file the part begins: beside a refusal, where the file does
abbrev pub part_start : Outcome Taken → ℕ
part_start o = filled_by 0 (o and_then λ t. given (record_start t.entry))

-- the record as the caller gets it, a part of the lent file
abbrev pub RecordPart : (file r : Bor (List ℕ)) → Outcome Taken → Type 0
RecordPart file r o = Part file r (part_start o) (part_bytes file.now o)
