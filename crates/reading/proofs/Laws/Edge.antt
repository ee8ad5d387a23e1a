-- The corners around a point between two edges, or on one, are those of the definition; what they weigh, and their exact height, found along the edges. From
-- the laws of corners, weights and the vote. Assumes nothing.
use mathlib.Core.Path.{◌≡◌, ◌∙◌, ap}
use mathlib.Core.Logic.{◌⊎◌, ⊎_elim}
use mathlib.Core.Bool.{or-false}
use mathlib.Core.List.{List}
use Prim.Native.Nat.{ℕ, zero, suc, ◌+◌, ◌-◌, ◌*◌, ◌≤◌, ◌<◌}
use native.Mathlib.Nat.{add-mul, mul-pos, mul-le-mul_left}
use native.Mathlib.Omega.{arith}
use borrow.Author.Tests.{ne_eqb}
use lib.ListN.{length}
use Rattle.ground.specs.Place.{Words, Weights, weights_of, word, words_of, Each}
use Rattle.ground.specs.declared.measure.Metres.{Metres}
use Rattle.ground.specs.declared.place.Place.{Place}
use Rattle.index.specs.Bytes.{record_bytes}
use Rattle.index.proofs.Laws.Bytes.{record_long}
use Rattle.terrain.specs.Inside.{Measured, Reaches}
use Rattle.terrain.specs.declared.record.Taken.{Taken}
use Rattle.terrain.specs.Word.{elevation_of}
use Rattle.reading.specs.Corner.{Corners, corner, corners_at, any_lacks_height, exact_height}
use Rattle.reading.specs.Vote.{sum_for, vote}
use Rattle.reading.specs.Reading.{read_corners}
use Rattle.reading.specs.Inside.{first, second, EdgeOf, OnLine, EdgeUnder, word_where, between, said, weightless, corners_around, corners_along}
use Rattle.reading.specs.declared.edge.Edge.{Edge}
use Rattle.reading.proofs.Laws.Corner.{corner_says, by_each}
use Rattle.reading.proofs.Laws.Vote.{greatest_only, greatest_by, vote_is}

-- two numbers of 16 bits that are held as one are told apart again
pub told_apart : (n a b : ℕ) → n ≡ 65536 * a + b → b ≤ 65535 → (first n ≡ a) × (second n ≡ b)
told_apart n a b is h = (omega arith, omega arith)

-- Which corners weigh in: the south-west one always, those to the east off the line from south to north, and those to the north off the other.
module _ (fx fy : Metres) (x : fx.0 ≤ 499) (y : fy.0 ≤ 499) where
  sw_weighs : 0 < (weights_of fx fy).sw
  unfolding weights_of
  sw_weighs = mul-pos (omega arith) (omega arith)

  se_weighs : 0 < fx.0 → 0 < (weights_of fx fy).se
  unfolding weights_of
  se_weighs h = mul-pos h (omega arith)

  nw_weighs : 0 < fy.0 → 0 < (weights_of fx fy).nw
  unfolding weights_of
  nw_weighs h = mul-pos (omega arith) h

  ne_weighs : 0 < fx.0 → 0 < fy.0 → 0 < (weights_of fx fy).ne
  unfolding weights_of
  ne_weighs = mul-pos

-- Of a point that is read from the record t, in the record:
module _ {file : List ℕ} {t : Taken} (reaches : Reaches file t) where
  abbrev bytes : List ℕ
  bytes = record_bytes file t.entry

  abbrev fx : Metres
  fx = t.place.fx

  abbrev fy : Metres
  fy = t.place.fy

  abbrev m : Measured t.place
  m = reaches.measured

  long : length bytes ≡ 1024
  long = record_long file t.entry (omega (arith, reaches.past)) reaches.recorded

  -- the south-west corner always weighs in, and its word is one of the record's
  pub word_in : word t.place ≤ 512
  word_in = (rw m.weights at reaches.words).sw.1 (sw_weighs fx fy m.x m.y)

  -- on a grid line, the words of the corners that weigh in
  pub line_in : (fx.0 ≡ 0) ⊎ (fy.0 ≡ 0) → OnLine bytes t.place
  line_in line =
      let words = rw m.weights at reaches.words in
      record {
        x = m.x;
        y = m.y;
        line = line;
        word = word_in;
        sw = omega (arith, word_in, long);
        se = λ h. omega (arith, words.se.1 (se_weighs fx fy m.x m.y h), long);
        nw = λ h. omega (arith, words.nw.1 (nw_weighs fx fy m.x m.y h), long);
      }

  -- off the lines all corners weigh in,
  pub all_weigh_lem : 0 < fx.0 → 0 < fy.0 → (let k = t.place.weights in Each (λ weight. 0 < weight) k.sw k.se k.nw k.ne)
  all_weigh_lem h g =
      rw m.weights
      (record {
        sw = sw_weighs fx fy m.x m.y;
        se = se_weighs fx fy m.x m.y h;
        nw = nw_weighs fx fy m.x m.y g;
        ne = ne_weighs fx fy m.x m.y h g;
      })

  -- and both edges are words of the record
  pub edges_in : 0 < fx.0 → 0 < fy.0 → 2 * (word t.place + 17) ≤ length bytes
  edges_in h g = omega (arith, reaches.words.ne.1 (all_weigh_lem h g).ne, long)

-- the corners around a point between two edges, all of which weigh in
pub around_is : (bytes : List ℕ) (w : Words) {s n : Edge} → EdgeOf bytes w.sw w.se s → EdgeOf bytes w.nw w.ne n → (k : Weights)
    → Each (λ weight. 0 < weight) k.sw k.se k.nw k.ne → corners_at bytes w k ≡ corners_around s n k
unfolding corners_at
around_is bytes w south north k weigh =
    rw (south.first, south.second, north.first, north.second)
    (by_each
    (corner_says bytes w.sw k.sw weigh.sw)
    (corner_says bytes w.se k.se weigh.se)
    (corner_says bytes w.nw k.nw weigh.nw)
    (corner_says bytes w.ne k.ne weigh.ne))

-- a height between two is at most 500 times what both are
pub between_most : (f from to most : ℕ) → f ≤ 500 → from ≤ most → to ≤ most → between f from to ≤ 500 * most
between_most f from to most h a b =
    let whole : 500 - f + f ≡ 500 = omega arith in
    omega (arith, mul-le-mul_left (500 - f) a, mul-le-mul_left f b, simp add-mul at (ap (λ (t : ℕ). t * most) whole))

-- the height of a point between two edges is that between the heights along them
pub height_between : (s n : Edge) (p : Place) → Measured p → (
    let along : Edge → ℕ = λ e. between p.fx.0 (elevation_of (first e.0)) (elevation_of (second e.0)) in
    exact_height (corners_around s n p.weights) ≡ between p.fy.0 (along s) (along n)
    )
unfolding exact_height weights_of
height_between s n p m = rw m.weights (omega (arith, m.x, m.y))

-- the height of a point on an edge is 500 times that along it
pub height_along : (e : Edge) (f : ℕ) → exact_height (corners_along e f) ≡ 500 * between f (elevation_of (first e.0)) (elevation_of (second e.0))
unfolding exact_height
height_along e f = omega arith

-- the corners around a point f metres to the north along an edge
abbrev corners_north : Edge → ℕ → Corners
corners_north e f =
    record { sw = said (first e.0) (500 * (500 - f)); se = weightless; nw = said (second e.0) (500 * f); ne = weightless }

-- a corner of 500 times a weight, whose word is looked at where there is a weight
scaled : (bytes : List ℕ) (w weight : ℕ) {four word : ℕ} → four ≡ 500 * weight → word ≡ word_where bytes w weight
    → corner bytes w four ≡ said word (500 * weight)
unfolding corner
scaled bytes w zero e d = rw (e, d)
scaled bytes w (suc n) e d = rw (e, d, ne_eqb (500 * suc n) 0 (λ x. omega arith), ne_eqb (suc n) 0 (λ x. omega arith))

-- a corner of no weight
none : (bytes : List ℕ) (w : ℕ) {four : ℕ} → four ≡ 0 → corner bytes w four ≡ weightless
unfolding corner
none bytes w e = rw e

-- to the north as to the east along an edge the heights, the lack of one and the votes are the same, and so is the reading
height_turned : (e : Edge) (f : ℕ) → exact_height (corners_north e f) ≡ exact_height (corners_along e f)
unfolding exact_height
height_turned e f = omega arith

vote_turned : (e : Edge) (f : ℕ) → vote (corners_north e f) ≡ vote (corners_along e f)
unfolding sum_for
vote_turned e f = greatest_only (greatest_by (λ k h. omega arith) (vote_is (corners_north e f))) (vote_is (corners_along e f))

lacks_turned : (e : Edge) (f : ℕ) → any_lacks_height (corners_north e f) ≡ any_lacks_height (corners_along e f)
unfolding any_lacks_height
lacks_turned e f = simp or-false

turned : (e : Edge) (f : ℕ) → read_corners (corners_north e f) ≡ read_corners (corners_along e f)
unfolding read_corners
turned e f = rw (lacks_turned e f, height_turned e f, vote_turned e f)

-- The reading of a point on a grid line is that along the edge under it.
module _ (bytes : List ℕ) (p : Place) (m : Measured p) {e : Edge} (under : EdgeUnder bytes p e) where
  abbrev w : Words
  w = words_of p

  abbrev f : ℕ
  f = p.fx.0 + p.fy.0

  -- the first corner, where one of fx and fy is 0
  first_is : {four : ℕ} → f ≤ 499 → four ≡ 500 * (500 - f) → corner bytes w.sw four ≡ said (first e.0) (500 * (500 - f))
  first_is h d = scaled bytes w.sw (500 - f) d (rw (under.first, ne_eqb (500 - f) 0 (λ z. omega arith)))

  north_is : p.fx.0 ≡ 0 → second e.0 ≡ word_where bytes w.nw f → corners_at bytes w p.weights ≡ corners_north e f
  unfolding corners_at weights_of
  north_is z d =
      rw m.weights
      (by_each
      (first_is (omega (arith, m.y)) (rw z (omega arith)))
      (none bytes w.se (rw z (omega arith)))
      (scaled bytes w.nw f (rw z (omega arith)) d)
      (none bytes w.ne (rw z (omega arith))))

  east_is : p.fy.0 ≡ 0 → second e.0 ≡ word_where bytes w.se f → corners_at bytes w p.weights ≡ corners_along e f
  unfolding corners_at weights_of
  east_is z d =
      rw m.weights
      (by_each
      (first_is (omega (arith, m.x)) (rw z (omega arith)))
      (scaled bytes w.se f (rw z (omega arith)) d)
      (none bytes w.nw (rw z (omega arith)))
      (none bytes w.ne (rw z (omega arith))))

  pub along_reads : read_corners (corners_at bytes w p.weights) ≡ read_corners (corners_along e f)
  along_reads =
      ⊎_elim
      (λ n. ap read_corners (north_is n.0 n.1) ∙ turned e f)
      (λ n. ap read_corners (east_is n.0 n.1))
      under.next
