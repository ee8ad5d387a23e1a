-- Demand 2 of a point: "In a file that passes the check, a point of the file's zone and on its ground is read exactly when its rectangle is covered and no
-- corner that weighs in lacks a height. The reading is the exact four-corner mean of that rectangle's own record, within its weighing corners." Since
-- document 02, request b), "covered" says that one of the allowed rectangles is, and "own record" is the record taken. proofs/Laws/Reading.antt shows
-- that every reading meets it. Assumes nothing.
use Rattle.std.specs.Prelude.{◌≡◌, ◌⊎◌, true, cond, List, ℕ, ◌+◌, ◌*◌, ◌≤◌, ◌<◌, eqb, length}
use Rattle.ground.specs.Outcome.{given}
use Rattle.ground.specs.Boundary.{rows}
use Rattle.ground.specs.Ground.{ground_of}
use Rattle.ground.specs.Place.{Words, Weights, words_of, place_of, AtEach}
use Rattle.ground.specs.Seam.{GridHolds}
use Rattle.ground.specs.declared.point.Point.{Point}
use Rattle.ground.specs.declared.place.Place.{Place}
use Rattle.index.specs.Bytes.{record_bytes}
use Rattle.terrain.specs.Record.{entry, covered, taken, rectangle_of}
use Rattle.terrain.specs.Word.{code_of, elevation_of, word_of}
use Rattle.terrain.specs.declared.record.Taken.{Taken}
use Rattle.reading.specs.Corner.{most_height}
use Rattle.reading.specs.Vote.{Greatest}
use Rattle.reading.specs.declared.point.Reading.{Reading}

-- a corner at word w, if it weighs in, has a height
abbrev pub HasHeight : (word : ℕ → ℕ) → (w weight : ℕ) → Type 0
HasHeight word w weight = 0 < weight → elevation_of (word w) ≡ 8191 → ⊥

-- a corner at word w, if it weighs in, lies between these elevations
abbrev pub LiesBetween : (lo hi : ℕ) → (word : ℕ → ℕ) → (w weight : ℕ) → Type 0
LiesBetween lo hi word w weight = 0 < weight → (lo ≤ elevation_of (word w)) × (elevation_of (word w) ≤ hi)

-- the four-corner mean of these words, in 1/250,000 m: the sum of weight x elevation
abbrev pub mean : (word : ℕ → ℕ) → Words → Weights → ℕ
mean word w weights =
    let part : ℕ → ℕ → ℕ = λ v weight. weight * elevation_of (word v) in
    part w.sw weights.sw + part w.se weights.se + part w.nw weights.nw + part w.ne weights.ne

-- the sum of the weights of the corners with a surface code
abbrev pub code_sum : (word : ℕ → ℕ) → Words → Weights → ℕ → ℕ
code_sum word w weights code =
    let part : ℕ → ℕ → ℕ = λ v weight. cond (eqb (code_of (word v)) code) weight 0 in
    part w.sw weights.sw + part w.se weights.se + part w.nw weights.nw + part w.ne weights.ne

-- a point at this place can be read: a record is taken for it, and no corner that weighs in lacks a height there
pub record Readable (file : List ℕ) (s : Place) : Type 0 where
  pub source : Taken
  pub covered : taken file s ≡ given source
  pub heights : AtEach (HasHeight (word_of file (rectangle_of source))) (words_of source.place) source.place.weights

-- a corner at word w weighs in and has no height
abbrev pub Lacks : (word : ℕ → ℕ) → (w weight : ℕ) → Type 0
Lacks word w weight = (0 < weight) × (elevation_of (word w) ≡ 8191)

-- a record is taken for a point at this place, and a corner that weighs in has no height there; refusal 6 is given where one has none
pub record SomeLacks (file : List ℕ) (s : Place) : Type 0 where
  pub source : Taken
  pub taken : taken file s ≡ given source
  pub lacks :
      let at : ℕ → ℕ → Type 0 = Lacks (word_of file (rectangle_of source)) in
      let w : Words = words_of source.place in
      let k : Weights = source.place.weights in
      (at w.sw k.sw ⊎ at w.se k.se) ⊎ (at w.nw k.nw ⊎ at w.ne k.ne)

-- the reading r from the record taken, t
pub record Mean (file : List ℕ) (t : Taken) (r : Reading) : Type 0 where
  -- the height is the exact four-corner mean of words of the rectangle,
  pub height : r.height ≡ mean (word_of file (rectangle_of t)) (words_of t.place) t.place.weights
  -- whose record is a whole one past the index,
  pub named : t.entry ≡ entry file (rectangle_of t)
  pub past : 7 ≤ t.entry
  pub long : length (record_bytes file t.entry) ≡ 1024
  -- that has the corners that weigh in among its 512 words;
  pub corners : AtEach (λ w weight. 0 < weight → (1 ≤ w) × (w ≤ 512)) (words_of t.place) t.place.weights
  -- the height is within the weighing corners, whatever bounds they have in common;
  pub within : (lo hi : ℕ) → AtEach (LiesBetween lo hi (word_of file (rectangle_of t))) (words_of t.place) t.place.weights
      → (250000 * lo ≤ r.height) × (r.height ≤ 250000 * hi)
  pub most : r.height ≤ most_height
  -- the code has the greatest sum of weights, ties to the smaller
  pub code : Greatest (code_sum (word_of file (rectangle_of t)) (words_of t.place) t.place.weights) 7 r.code

-- the reading r of a point p in the file of base b and zone z is the mean of the record taken, whose rectangle's grid holds the point and whose record is its
-- own: no other rectangle of the file has it
pub record IsMean (file : List ℕ) (b z : ℕ) (p : Point) (r : Reading) : Type 0 where
  pub source : Taken
  pub taken : taken file (place_of (ground_of b z) p) ≡ given source
  pub holds : GridHolds (ground_of b z) p source.place
  pub mean : Mean file source r
  pub own : (m : ℕ) → m < 100 * rows b → covered file m ≡ true → entry file m ≡ source.entry → m ≡ rectangle_of source
