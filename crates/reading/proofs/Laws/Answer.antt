-- What an answer says of the reading that it shows. A refusal of a point has a number from 1 to 6 and place 0, so an answer with number 0 shows a reading, and
-- any other that refusal. From the laws of the record taken. Assumes nothing.
use mathlib.Core.Path.{◌≡◌, refl}
use mathlib.Core.Logic.{⊎_elim}
use mathlib.Core.Bool.{Bool, true, false, not}
use mathlib.Core.List.{List}
use Prim.Native.Nat.{ℕ, ◌≤◌, ◌<◌}
use native.Mathlib.Omega.{arith}
use lib.Dec.{lit≤, lit<}
use Rattle.ground.specs.Outcome.{Outcome, given, refused, unless, ◌and_then◌}
use Rattle.ground.specs.Boundary.{rows, named}
use Rattle.ground.specs.Ground.{holds}
use Rattle.ground.specs.Place.{located}
use Rattle.ground.specs.declared.point.Point.{Point}
use Rattle.index.specs.Bytes.{whole_records}
use Rattle.index.specs.Index.{index_passes}
use Rattle.terrain.specs.Check.{checked}
use Rattle.terrain.specs.Record.{taken, record_in}
use Rattle.terrain.specs.declared.check.Terrain.{Terrain}
use Rattle.terrain.specs.declared.record.Taken.{Taken}
use Rattle.terrain.proofs.Laws.Taken.{taken_or_5}
use Rattle.reading.specs.Corner.{corners_of, any_lacks_height}
use Rattle.reading.specs.Reading.{read_corners, read_taken, point_in, reading, read_answer}
use Rattle.reading.specs.declared.point.Reading.{Reading}
use Rattle.reading.specs.declared.point.ReadAnswer.{ReadAnswer}

-- an outcome that is, where it is a refusal, one with a number from 1 to 6 and place 0
abbrev pub Numbered : {A : Type 0} → Outcome A → Type 0
Numbered (given a) = Unit {0}
Numbered (refused number place) = (0 < number) × ((number ≤ 6) × (place ≡ 0))

-- a test that refuses with such a number
test : {A : Type 0} (t : Bool) (number : ℕ) (o : Outcome A) → 0 < number → number ≤ 6 → Numbered o → Numbered (unless t number o)
test true number o some most rest = (some, (most, refl))
test false number o some most rest = rest

-- two such steps
steps : {A B : Type 0} (o : Outcome A) (f : A → Outcome B) → Numbered o → ((a : A) → Numbered (f a)) → Numbered (o and_then f)
steps (given a) f h then = then a
steps (refused number place) f h then = h

module _ (file : List ℕ) where
  -- the record of a point, 4 and 5
  taken_numbered : (t : Terrain) (p : Point) → Numbered (record_in file t p)
  unfolding record_in
  taken_numbered t p =
      steps (located t.ground p) (taken file) (test (not (holds t.ground p)) 4 _ (lit< tt) (lit≤ tt) tt)
      λ s. ⊎_elim (λ x. rw x.1 tt) (λ e. rw e (lit< tt, (lit≤ tt, refl))) (taken_or_5 file s)

  -- what is read from it, 6
  read_numbered : (t : Taken) → Numbered (read_taken file t)
  unfolding read_taken read_corners
  read_numbered t = test (any_lacks_height (corners_of file t)) 6 _ (lit< tt) (lit≤ tt) tt

  -- a point of a checked file
  pub point_numbered : (t : Terrain) (p : Point) → Numbered (point_in file t p)
  unfolding point_in
  point_numbered t p = steps (record_in file t p) (read_taken file) (taken_numbered t p) read_numbered

  -- a point of a file, which is checked
  pub reading_numbered : (b z : ℕ) (p : Point) → Numbered (reading file b z p)
  unfolding reading checked
  reading_numbered b z p =
      steps (checked file b z) _
      (test (not (whole_records file)) 1 _ (lit< tt) (lit≤ tt)
      (test (not (named b z)) 2 _ (lit< tt) (lit≤ tt)
      (test (not (index_passes file (rows b))) 3 _ (lit< tt) (lit≤ tt) tt)))
      λ t. point_numbered t p

-- an answer with number 0 shows a reading,
pub shows_reading : (o : Outcome Reading) {r : ReadAnswer} → Numbered o → r ≡ read_answer o → r.refusal ≡ 0
    → o ≡ given (record { height = r.height; code = r.code })
shows_reading (given a) n is e = rw is
shows_reading (refused number place) n is e = let z : number ≡ 0 = rw is at e in absurd (omega arith)

-- and any other that refusal
pub shows_refusal : (o : Outcome Reading) {r : ReadAnswer} → Numbered o → r ≡ read_answer o → (r.refusal ≡ 0 → ⊥) → o ≡ refused r.refusal 0
shows_refusal (given a) n is e = absurd (e (rw is))
shows_refusal (refused number place) n is e = rw (is, n.1.1)
