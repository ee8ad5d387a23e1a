-- Demand 2, its first two sentences: in a file that passes the check, a point of the file's zone and on its ground is read exactly when a record is taken
-- for it and no corner that weighs in lacks a height; and the reading is the exact four-corner mean of that record, within its weighing corners. From the
-- laws of the record taken, of the corners and of the vote. Assumes nothing.
use mathlib.Core.Path.{◌≡◌, sym, ◌∙◌, ap, subst}
use mathlib.Core.Logic.{◌↔◌}
use mathlib.Core.Bool.{true, false}
use mathlib.Core.List.{List}
use Prim.Native.Nat.{ℕ, ◌+◌, ◌≤◌}
use native.Mathlib.Omega.{arith}
use borrow.Author.Tests.{eqb-true, eq-eqb}
use Rattle.ground.specs.Outcome.{Outcome, given, ◌and_then◌}
use Rattle.ground.specs.Boundary.{rows}
use Rattle.ground.specs.Ground.{ground_of, holds}
use Rattle.ground.specs.Place.{Words, Weights, words_of, place_of, located, AtEach}
use Rattle.ground.specs.declared.place.Place.{Place}
use Rattle.ground.specs.declared.point.Point.{Point}
use Rattle.ground.proofs.Laws.Outcome.{past, step, assoc}
use Rattle.ground.proofs.Laws.Test.{either}
use Rattle.ground.proofs.Laws.Place.{each}
use Rattle.index.specs.Bytes.{nth, record_bytes}
use Rattle.index.proofs.Laws.Bytes.{record_long}
use Rattle.terrain.specs.Check.{checked, Gave}
use Rattle.terrain.specs.Record.{entry, taken, rectangle_of, record_in, record_for}
use Rattle.terrain.specs.Inside.{Reaches}
use Rattle.terrain.specs.Word.{word_of}
use Rattle.terrain.specs.declared.check.Terrain.{Terrain}
use Rattle.terrain.specs.declared.record.Taken.{Taken}
use Rattle.terrain.proofs.Laws.Checked.{checked_is, gave_is, own}
use Rattle.terrain.proofs.Laws.Taken.{IsTaken, taken_holds, taken_entry, taken_is, place_is, all_vouched}
use Rattle.reading.specs.Corner.{Corner, Corners, corner, corners_at, corners_of, any_lacks_height, exact_height, most_height}
use Rattle.reading.specs.Vote.{sum_for, vote}
use Rattle.reading.specs.Reading.{read_corners, read_taken, spot_in, point_in, reading}
use Rattle.reading.specs.Demand.{HasHeight, LiesBetween, mean, code_sum, Readable, SomeLacks, Mean, IsMean}
use Rattle.reading.specs.Inside.{EachCorner}
use Rattle.reading.specs.declared.point.Reading.{Reading}
use Rattle.reading.proofs.Laws.Corner.{corner_weight, corner_lacks, corner_part, lacks_none, corner_between, HeightWithin, height_within}
use Rattle.reading.proofs.Laws.Vote.{weigh, greatest_by, corner_for, vote_is}

-- From the words of a record to the corners that the definitions speak of, and back.
module _ (bytes : List ℕ) (w : Words) (weights : Weights) where
  to_corners : {Q : Corner → Type 0} → AtEach (λ v weight. Q (corner bytes v weight)) w weights → EachCorner Q (corners_at bytes w weights)
  unfolding corners_at
  to_corners a = record { sw = a.sw; se = a.se; nw = a.nw; ne = a.ne }

  to_words : {Q : Corner → Type 0} → EachCorner Q (corners_at bytes w weights) → AtEach (λ v weight. Q (corner bytes v weight)) w weights
  unfolding corners_at
  to_words a = record { sw = a.sw; se = a.se; nw = a.nw; ne = a.ne }

  -- no corner lacks a height exactly if each that weighs in has one
  heights_are : (any_lacks_height (corners_at bytes w weights) ≡ false) ↔ AtEach (HasHeight (nth bytes)) w weights
  heights_are =
      let none = lacks_none (corners_at bytes w weights) in (
        (λ e. each (λ x h l q. h (eqb-true _ _ ((corner_lacks bytes x.0 x.1).1 (l, q)))) (to_words (none.0 e))),
        λ a. none.1 (to_corners (each (λ x h q. let t = (corner_lacks bytes x.0 x.1).0 (eq-eqb _ _ q) in h t.0 t.1) a)),
      )

  -- the exact height is the mean
  mean_is : exact_height (corners_at bytes w weights) ≡ mean (nth bytes) w weights
  unfolding exact_height corners_at
  mean_is = simp (corner_part bytes)

  -- the sums of the vote are the sums over the words' codes
  sum_is : (code : ℕ) → sum_for (corners_at bytes w weights) code ≡ code_sum (nth bytes) w weights code
  unfolding sum_for corners_at
  sum_is code = simp (corner_for bytes)

  -- the exact height is within bounds that the weighing corners have in common
  mean_within : (lo hi : ℕ) → weights.sw + weights.se + (weights.nw + weights.ne) ≡ 250000 → AtEach (LiesBetween lo hi (nth bytes)) w weights
      → HeightWithin lo hi (corners_at bytes w weights)
  unfolding corners_at
  mean_within lo hi all a =
      height_within lo hi (corners_at bytes w weights)
      (simp (corner_weight bytes) all)
      (to_corners (each (λ x. corner_between bytes x.0 lo hi x.1) a))

-- the reading of these corners
abbrev reading_of : Corners → Reading
reading_of c = record { height = exact_height c; code = vote c }

-- A record t that is taken by the entry of its rectangle:
module _ (file : List ℕ) (t : Taken) (is : t.entry ≡ entry file (rectangle_of t)) where
  -- each corner that weighs in has a height in the record exactly if it has one in the rectangle
  heights_of : AtEach (HasHeight (nth (record_bytes file t.entry))) (words_of t.place) t.place.weights
      ↔ AtEach (HasHeight (word_of file (rectangle_of t))) (words_of t.place) t.place.weights
  heights_of = ((λ a. rw is at a), λ a. rw is a)

  -- the reading of its corners, where the record reaches as far as those that weigh in and none lacks a height, is the mean
  pub mean_of : Reaches file t → (r : Reading) → read_taken file t ≡ given r → Mean file t r
  unfolding read_taken read_corners
  mean_of reaches r e =
      let k = corners_of file t in
      let q = past (any_lacks_height k) 6 (given (reading_of k)) r e in
      let i : reading_of k ≡ r = cc q.1 in
      let bytes = record_bytes file t.entry in
      let w = words_of t.place in
      let weights = t.place.weights in
      let between = mean_within bytes w weights in
      let heights = (heights_are bytes w weights).0 q.0 in
      let all = (weigh t.place reaches.measured).all in
      subst (λ (x : Reading). Mean file t x) i (record {
        height = rw (← is) (mean_is bytes w weights);
        named = is;
        past = reaches.past;
        long = record_long file t.entry (omega (arith, reaches.past)) reaches.recorded;
        corners = each (λ x f l. (f.0, f.1 l)) reaches.words;
        within = λ lo hi a. let x = between lo hi all (rw (← is) at a) in (x.least, x.most);
        most = (between 0 8190 all (each (λ x f l. omega (arith, f l)) heights)).most;
        code = greatest_by (λ n l. rw (← is) (sum_is bytes w weights n)) (vote_is (corners_of file t));
      })

-- a corner lacks a height, in the record taken, exactly if some weighing corner of the rectangle has none
pub some_lacks : (file : List ℕ) (s : Place) (t : Taken) → taken file s ≡ given t → (any_lacks_height (corners_of file t) ≡ true) ↔ SomeLacks file s
unfolding any_lacks_height corners_at
some_lacks file s t e =
    let is = taken_entry file s t e in
    let w = words_of t.place in
    let k = t.place.weights in
    let at = corner_lacks (record_bytes file t.entry) in
    let any = either _ _ (either _ _ (at w.sw k.sw) (at w.se k.se)) (either _ _ (at w.nw k.nw) (at w.ne k.ne)) in (
      (λ h. record { source = t; taken = e; lacks = rw is at (any.0 h) }),
      λ l.
          let i : l.source ≡ t = cc (l.taken, e) in
          any.1 (rw is (rw i at l.lacks)),
    )

-- In a file that passes every entry but 0 names a record, so that its points are read as in a file that was only opened.
pub point_is_spot : {file : List ℕ} {t : Terrain} → Gave file t → (p : Point) → spot_in file t p ≡ point_in file t p
unfolding spot_in point_in
point_is_spot {file} f p = ap (λ (o : Outcome Taken). o and_then read_taken file) (all_vouched f p)

-- The reading takes its words from the record that `record_at` hands back.
pub from_record : (file : List ℕ) (b z : ℕ) (p : Point) → reading file b z p ≡ (record_for file b z p and_then read_taken file)
unfolding reading record_for point_in
from_record file b z p = sym (assoc (checked file b z) (λ t. record_in file t p) (read_taken file))

-- In a file that passes the check, a point of the file's zone and on its ground:
module _ (file : List ℕ) (b z : ℕ) (t : Terrain) (c : checked file b z ≡ given t) (p : Point) (h : holds (ground_of b z) p ≡ true) where
  abbrev s : Place
  s = place_of (ground_of b z) p

  -- its reading is that of the record taken at its place
  pub at_place : reading file b z p ≡ (taken file s and_then read_taken file)
  unfolding reading point_in record_in
  at_place = simp (c, (checked_is file b z t c).opened.is, h)

  is_taken : (u : Taken) → taken file s ≡ given u → IsTaken file (rows b) u
  is_taken = taken_is b z (checked_is file b z t c).passes p h

  -- what it is read as is the mean of that record, which is its own
  pub read_mean : (r : Reading) → reading file b z p ≡ given r → IsMean file b z p r
  read_mean r e =
      let v = step (taken file s) (read_taken file) r (sym at_place ∙ e) in
      let u = v.value in
      let is = is_taken u v.gave in
      record {
        source = u;
        taken = v.gave;
        holds = taken_holds file (ground_of b z) p h u v.gave;
        mean = mean_of file u is.entry is.reaches r v.then;
        own = λ m l covered same. own (checked_is file b z t c).passes m (rectangle_of u) l is.within covered is.covered (same ∙ is.entry);
      }

  -- it is read exactly when a record is taken for it and no corner that weighs in lacks a height
  pub read_exactly : ((r : Reading) × (reading file b z p ≡ given r)) ↔ Readable file s
  unfolding read_taken read_corners
  read_exactly = (
    (λ x.
        let v = step (taken file s) (read_taken file) x.0 (sym at_place ∙ x.1) in
        let u = v.value in
        let k = corners_of file u in
        let q = past (any_lacks_height k) 6 (given (reading_of k)) x.0 v.then in
        record {
          source = u;
          covered = v.gave;
          heights = (heights_of file u (is_taken u v.gave).entry).0 ((heights_are _ (words_of u.place) u.place.weights).0 q.0);
        }),
    λ y.
        let u = y.source in
        let has = (heights_are (record_bytes file u.entry) (words_of u.place) u.place.weights).1 ((heights_of file u (is_taken u y.covered).entry).1 y.heights) in
        (reading_of (corners_of file u), at_place ∙ simp (y.covered, has)),
  )

-- The height and the code of a point that is read in a checked file are within their bounds.
pub read_within : {file : List ℕ} {t : Terrain} (p : Point) {r : Reading} → Gave file t → point_in file t p ≡ given r → (r.height ≤ most_height) × (r.code ≤ 7)
unfolding point_in record_in reading
read_within {file} {t} p {r} f e =
    let s = step (record_in file t p) (read_taken file) r e in
    let l = step (located t.ground p) (taken file) s.value s.gave in
    let h = (place_is f.base f.zone (gave_is f).opened.is p l.value l.gave).0 in
    let m = (read_mean file f.base f.zone t f.gave p h r (simp (f.gave, e))).mean in
    (m.most, m.code.within)
