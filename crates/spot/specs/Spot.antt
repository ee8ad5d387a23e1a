-- The reading of one spot, without the whole index. Document 02, request c): it "looks at the length, base, zone, M, and this point's entries in the order of
-- request b), stopping at the first that isn't 0, and at no others". Assumes nothing.
use Rattle.std.specs.Prelude.{◌≡◌, ◌⊎◌, Bool, false, not, cond, List, [], ◌∷◌, ℕ, ◌≤◌, eqb}
use Rattle.ground.specs.Outcome.{Outcome, given, unless, ◌and_then◌}
use Rattle.ground.specs.Boundary.{named}
use Rattle.ground.specs.Ground.{ground_of, holds}
use Rattle.ground.specs.Place.{number, place_of}
use Rattle.ground.specs.Seam.{allowed, GridHolds}
use Rattle.ground.specs.declared.point.Point.{Point}
use Rattle.ground.specs.declared.place.Place.{Place}
use Rattle.index.specs.Bytes.{whole_records}
use Rattle.index.specs.Index.{highest, highest_passes, is_record}
use Rattle.terrain.specs.Record.{entry, taken}
use Rattle.terrain.specs.declared.record.Taken.{Taken}
use Rattle.reading.specs.Reading.{read_taken}
use Rattle.reading.specs.Demand.{Mean}
use Rattle.reading.specs.declared.point.Reading.{Reading}

-- of the entries of these places' rectangles the first that isn't 0 names no record: it is not 7 to M
unfoldable pub names_no_record : List ℕ → List Place → Bool
names_no_record file [] = false
names_no_record file (s ∷ rest) =
    let r : ℕ = entry file (number s.rectangle) in
    cond (eqb r 0) (names_no_record file rest) (not (is_record r (highest file)))

-- "Refusals: 1, 2, 3 for M outside its range, 4, then 3 for the first entry looked at that is neither 0 nor 7 to M, then 5 and 6." The record is that of request
-- b), and the reading from it that of every call.
unfoldable pub spot : List ℕ → ℕ → ℕ → Point → Outcome Reading
spot file b z p =
    let s : Place = place_of (ground_of b z) p in
    unless (not (whole_records file)) 1
    (unless (not (named b z)) 2
    (unless (not (highest_passes file)) 3
    (unless (not (holds (ground_of b z) p)) 4
    (unless (names_no_record file (allowed s)) 3
    (taken file s and_then read_taken file)))))

-- Position n is looked at in a search of these places: it is that of the first one's rectangle, or, where that rectangle's entry is 0, it is looked at in a
-- search of the others. Rectangle 0 has no position.
abbrev pub LooksAt : List ℕ → List Place → ℕ → Type 0
LooksAt file [] n = ⊥
LooksAt file (s ∷ rest) n =
    let m : ℕ = number s.rectangle in
    ((1 ≤ m) × (n ≡ m)) ⊎ ((entry file m ≡ 0) × LooksAt file rest n)

-- an entry is looked at that is neither 0 nor 7 to M
pub record NamesNoRecord (file : List ℕ) (s : Place) : Type 0 where
  pub at : ℕ
  pub looked : LooksAt file (allowed s) at
  pub some : entry file at ≡ 0 → ⊥
  pub other : (7 ≤ entry file at) × (entry file at ≤ highest file) → ⊥

-- the reading r of a spot, of any file: the mean of the record that the first of its entries that isn't 0 names, 7 to M, in a rectangle whose grid holds the
-- point. Whether another rectangle names the record too is not looked at.
pub record SpotIsMean (file : List ℕ) (b z : ℕ) (p : Point) (r : Reading) : Type 0 where
  pub source : Taken
  pub taken : taken file (place_of (ground_of b z) p) ≡ given source
  pub most : source.entry ≤ highest file
  pub holds : GridHolds (ground_of b z) p source.place
  pub mean : Mean file source r
