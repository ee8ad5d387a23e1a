-- The definitions that the promises cite refuse in the documents' order of checks, each number for its condition in their words. From the laws of the
-- crates, which say what their tests mean, and of lines. Assumes nothing.
use mathlib.Core.Path.{◌≡◌, sym, ◌∙◌, ap}
use mathlib.Core.Logic.{inl, inr, ⊎_elim, ◌↔◌}
use mathlib.Core.Bool.{Bool, true, false, not, false≢true}
use mathlib.Core.List.{List, [], ◌∷◌, ◌++◌}
use Prim.Native.Nat.{ℕ, zero, suc, ◌+◌, ◌*◌, ◌/◌, ◌%◌, ◌≤◌}
use native.Mathlib.Decide.{dec_le}
use native.Mathlib.Omega.{arith}
use lib.Dec.{lit≤}
use borrow.Author.Tests.{ltb-true, eqb-true, le-leb, le-ltb, lt-ltb, eq-eqb, not-true, not-false}
use Rattle.ground.specs.Outcome.{Outcome, given, unless, ◌and_then◌}
use Rattle.ground.specs.Measure.{metres, in_units}
use Rattle.ground.specs.Boundary.{y_b, y_end, rows, named, base_at, base_of}
use Rattle.ground.specs.Name.{file_name}
use Rattle.ground.specs.Ground.{ground_of, holds}
use Rattle.ground.specs.Place.{located}
use Rattle.ground.specs.Seam.{allowed}
use Rattle.ground.specs.declared.point.Point.{Point}
use Rattle.ground.specs.declared.place.Place.{Place}
use Rattle.ground.specs.declared.measure.Units.{Units}
use Rattle.ground.proofs.Laws.Outcome.{not_both, step}
use Rattle.ground.proofs.Laws.Test.{either}
use Rattle.ground.proofs.Laws.Boundary.{base_at_lem, base_none, base_next, base_own}
use Rattle.ground.proofs.Laws.Ground.{named_is, held_in_metres}
use Rattle.index.specs.Bytes.{whole_records}
use Rattle.index.specs.Index.{highest_passes, index_passes}
use Rattle.index.proofs.Laws.Bytes.{whole_is, is_whole}
use Rattle.index.proofs.Laws.Passes.{highest_is, passing, passes_is}
use Rattle.terrain.specs.Check.{checked}
use Rattle.terrain.specs.Record.{Uncovered, taken, record_in, record_for}
use Rattle.terrain.specs.declared.check.Terrain.{Terrain}
use Rattle.terrain.specs.declared.record.Taken.{Taken}
use Rattle.terrain.proofs.Laws.Checked.{checked_is}
use Rattle.terrain.proofs.Laws.Taken.{taken_or_5, place_is}
use Rattle.reading.specs.Reading.{read_corners, read_taken, point_in, reading}
use Rattle.reading.proofs.Laws.Reading.{some_lacks}
use Rattle.spot.specs.Spot.{names_no_record, spot}
use Rattle.spot.proofs.Laws.Spot.{no_record_is}
use Rattle.survey.specs.Survey.{Lists, point_count, unfit, with_answers, answer_of, upload}
use Rattle.survey.proofs.Laws.Lists.{unfit_is}
use Rattle.path.specs.Path.{Q, N, asking, ask_masts, path_of, sample, farthest, over_asked, path_on}
use Rattle.path.proofs.Laws.Path.{path_is}
use Rattle.profile.specs.Profile.{Link, unused, put, at_sample, up_to, link_in, linked, profile}
use Rattle.profile.specs.Row.{row_of, row}
use Rattle.profile.proofs.Laws.Link.{with, link_is, same_link}
use Rattle.masts.specs.Plan.{plan_of}
use Rattle.masts.proofs.Laws.Plan.{planned}
use Rattle.link.specs.Clear.{clear, verdict}
use Rattle.plan.specs.Plan.{plan}
use Rattle.janlishuk.specs.Order.{Line, IsNamed, OnGround, placed, of_file, of_name, of_northing, of_record, of_point, of_ends, of_masts, of_row, of_samples, of_pairs, of_link, of_spot, of_upload}
use Rattle.janlishuk.proofs.Laws.Line.{InOrder, gave, tested, after, giving, met_at}

-- the condition of 2
is_named : (b z : ℕ) → (named b z ≡ true) ↔ IsNamed b z
unfolding named
is_named b z = (
  (λ e. let n = named_is b z e in record { fours = omega (arith, (base_at_lem b n.base).1); most = n.most; first = n.first; last = n.last }),
  λ n. simp (le-leb _ _ n.most, eq-eqb (b % 4) 0 (omega (arith, n.fours)), le-leb _ _ n.first, le-leb _ _ n.last),
)

-- the condition of 4
pub on_ground_lem : (b z : ℕ) (p : Point) → (holds (ground_of b z) p ≡ true) ↔ OnGround b z p
on_ground_lem b z p =
    let m = held_in_metres (ground_of b z) p in (
      (λ h. let t = m.0 h in record { zone = t.0; west = t.1; east = t.2; south = t.3; north = t.4 }),
      λ g. m.1 (g.zone, g.west, g.east, g.south, g.north),
    )

module _ {A C : Type 0} {ls : List Line} {o : Outcome A} (t : Bool) (i : (t ≡ true) ↔ C) (k : ℕ) (some : 1 ≤ k) where
  -- a step that is refused where a fact does not hold is a line
  pub without : (C → InOrder ls o) → InOrder (record { number = k; place = 0; condition = C → ⊥ } ∷ ls) (unless (not t) k o)
  without rest =
      tested (not t) k some (λ e c. false≢true (sym (not-true t e) ∙ i.1 c)) (λ e n. n (i.0 (not-false t e))) (λ e. rest (i.0 (not-false t e)))

  -- a step that is refused where a fact holds is a line
  pub where_so : ((C → ⊥) → InOrder ls o) → InOrder (record { number = k; place = 0; condition = C } ∷ ls) (unless t k o)
  where_so rest =
      let none : t ≡ false → C → ⊥ = λ e c. false≢true (sym e ∙ i.1 c) in
      tested t k some i.0 none λ e. rest (none e)

-- 1, 2, 3 of a file
pub file_order : (file : List ℕ) (b z : ℕ) → InOrder (of_file file b z) (checked file b z)
unfolding checked
file_order file b z =
    without (whole_records file) (whole_is file, is_whole file) 1 (lit≤ tt) λ w.
    without (named b z) (is_named b z) 2 (lit≤ tt) λ n.
    without (index_passes file (rows b)) (passing file (rows b) (is_whole file w), λ p. ((passes_is file (rows b)).1 p).1) 3 (lit≤ tt) λ p.
    gave _

-- 2 of a name
pub name_order : (b z : ℕ) → InOrder (of_name b z) (file_name b z)
name_order b z = without (named b z) (is_named b z) 2 (lit≤ tt) λ n. gave _

-- 4 of a northing
pub base_order : (northing : ℕ) → InOrder (of_northing northing) (base_of (metres northing))
base_order northing = go (dec_le y_end y.0) (dec_le (y_b (4 * (y.0 / 899) + 4)).0 y.0)
  where
    y : Units
    y = in_units (metres northing)

    go : Dec (y_end ≤ y.0) → Dec ((y_b (4 * (y.0 / 899) + 4)).0 ≤ y.0) → InOrder (of_northing northing) (base_at y)
    go (yes h) d = record { refuses = inl (h, (base_none y h, lit≤ tt)) }
    go (no h) (yes n) = record { refuses = inr (h, (_, base_next y (omega arith) n)) }
    go (no h) (no n) = record { refuses = inr (h, (_, base_own y (omega arith) (omega arith))) }

-- 5 of a place
taken_order : (file : List ℕ) (s : Place) → InOrder (record { number = 5; place = 0; condition = Uncovered file s } ∷ []) (taken file s)
taken_order file s =
    record {
      refuses = ⊎_elim
          (λ x. inr ((λ none. none x.0 x.1), x))
          (λ e. inl ((λ t g. not_both (sym e ∙ g)), (e, lit≤ tt)))
          (taken_or_5 file s);
    }

-- A point in a file that passed with this base and zone.
module _ (file : List ℕ) (b z : ℕ) (t : Terrain) (passed : checked file b z ≡ given t) (p : Point) where
  opened : t.ground ≡ ground_of b z
  opened = (checked_is file b z t passed).opened.is

  -- 4 of the point
  located_order : InOrder (record { number = 4; place = 0; condition = OnGround b z p → ⊥ } ∷ []) (located t.ground p)
  located_order = rw opened (without (holds (ground_of b z) p) (on_ground_lem b z p) 4 (lit≤ tt) λ g. gave _)

  -- 4, 5 of its record
  pub record_order : InOrder (of_record file b z 0 p) (record_in file t p)
  unfolding record_in
  record_order = after (taken file) located_order λ s e. rw (place_is b z opened p s e).1 (taken_order file (placed b z p))

  -- the record taken is that of the point's place
  pub taken_at : (u : Taken) → record_in file t p ≡ given u → (holds (ground_of b z) p ≡ true) × (taken file (placed b z p) ≡ given u)
  unfolding record_in
  taken_at u e =
      let s = step (located t.ground p) (taken file) u e in
      let i = place_is b z opened p s.value s.gave in
      (i.0, rw i.1 at s.then)

  -- 4, 5, 6 of the point
  pub point_order : InOrder (of_point file b z 0 p) (point_in file t p)
  unfolding point_in read_taken read_corners
  point_order =
      after (read_taken file) record_order λ u e.
      where_so _ (some_lacks file (placed b z p) u (taken_at u e).1) 6 (lit≤ tt) λ n. gave _

module _ (file : List ℕ) (b z : ℕ) (p : Point) where
  -- a record is handed back in that order
  pub taking_order : InOrder (of_file file b z ++ of_record file b z 0 p) (record_for file b z p)
  unfolding record_for
  taking_order = after (λ t. record_in file t p) (file_order file b z) λ t e. record_order file b z t e p

  -- a point is read in that order
  pub reading_order : InOrder (of_file file b z ++ of_point file b z 0 p) (reading file b z p)
  unfolding reading
  reading_order = after (λ t. point_in file t p) (file_order file b z) λ t e. point_order file b z t e p

  -- a spot is read in the order that document 02 gives it
  pub spot_order : InOrder (of_spot file b z p) (spot file b z p)
  unfolding spot read_taken read_corners
  spot_order =
      without (whole_records file) (whole_is file, is_whole file) 1 (lit≤ tt) λ w.
      without (named b z) (is_named b z) 2 (lit≤ tt) λ n.
      without (highest_passes file) (highest_is file) 3 (lit≤ tt) λ h.
      without (holds (ground_of b z) p) (on_ground_lem b z p) 4 (lit≤ tt) λ g.
      where_so (names_no_record file (allowed (placed b z p))) (no_record_is file (placed b z p)) 3 (lit≤ tt) λ r.
      after (read_taken file) (taken_order file (placed b z p)) λ u e.
      where_so _ (some_lacks file (placed b z p) u e) 6 (lit≤ tt) λ k. gave _

-- an upload is refused in the order 1, 2, 3, 10
pub upload_order : (file : List ℕ) (b z : ℕ) (l : Lists) → InOrder (of_upload file b z l) (upload file b z l)
unfolding upload
upload_order file b z l =
    giving (λ t. with_answers (answer_of file b z l) l (point_count l))
    (after _ (file_order file b z) λ t e. where_so (unfit l) (unfit_is l) 10 (lit≤ tt) λ n. gave t)

-- 4, 4, 7 of the ends of a path, then what the call has for 8
module _ (b z : ℕ) (p q : Point) (ma mb i : ℕ) where
  abbrev Eight : List Line → Type 0
  Eight eight = InOrder eight (unless (over_asked (N (Q p q)) ma mb i) 8 (given (path_of p q)))

  ends_order : {eight : List Line} → Eight eight → InOrder (of_ends b z p q ++ eight) (path_on (ground_of b z) (asking p q ma mb i))
  unfolding path_on
  ends_order rest =
      let far = Q p q in
      without _ (on_ground_lem b z p) 4 (lit≤ tt) λ f.
      without _ (on_ground_lem b z q) 4 (lit≤ tt) λ s.
      where_so _ (either _ _ (eqb-true far 0, eq-eqb far 0) (ltb-true farthest far, lt-ltb farthest far)) 7 (lit≤ tt) λ n.
      rest

-- the samples, each as a point of the file
samples_order : (file : List ℕ) (b z : ℕ) (t : Terrain) (n : ℕ) → checked file b z ≡ given t → (p q : Point) (k : ℕ)
    → InOrder (of_samples file b z p q k) (up_to (λ i. point_in file t (sample (path_of p q) i)) n k)
unfolding of_samples up_to
samples_order file b z t n g p q zero = gave (unused n)
samples_order file b z t n g p q (suc i) =
    after
    (λ pr. at_sample i (point_in file t (sample (path_of p q) i)) and_then λ r. given (put pr i r))
    (samples_order file b z t n g p q i)
    λ pr e. giving (put pr i) (met_at i (point_order file b z t g (sample (path_of p q) i)))

module _ (file : List ℕ) (b z : ℕ) (p q : Point) where
  -- every call on a path
  link_order : (ma mb i : ℕ) {eight : List Line} → Eight b z p q ma mb i eight → InOrder (of_link eight file b z p q) (linked file b z (asking p q ma mb i))
  unfolding linked link_in
  link_order ma mb i {eight} rest =
      let asks = asking p q ma mb i in
      after (λ t. path_on t.ground asks and_then link_in file t) (file_order file b z) λ t e.
      let g = (checked_is file b z t e).opened.is in
      after {ls = of_ends b z p q ++ eight} {ms = of_samples file b z p q (N (Q p q) + 1)} (link_in file t) (rw g (ends_order b z p q ma mb i rest)) λ w h.
      rw (path_is t.ground asks w h).is
      (giving (λ pr. with (path_of p q) pr) (samples_order file b z t (N (Q p q)) e p q (N (Q p q) + 1)))

  -- a profile, which asks for nothing that 8 refuses
  pub profile_order : InOrder (of_link [] file b z p q) (profile file b z p q)
  unfolding profile
  profile_order =
      giving (λ l. l.profile) (link_order 0 0 0 {eight = []} (rw (le-ltb (N (Q p q)) 0 (omega arith)) (gave _)))

  -- a call with masts
  masts_order : (ma mb : ℕ) → InOrder (of_link (of_masts ma mb) file b z p q) (linked file b z (ask_masts p q ma mb))
  masts_order ma mb =
      let over = either _ _ (either _ _ (ltb-true 100 ma, lt-ltb 100 ma) (ltb-true 100 mb, lt-ltb 100 mb)) (ltb-true (N (Q p q)) 0, lt-ltb (N (Q p q)) 0) in
      link_order ma mb 0
      (where_so _ ((λ e. ⊎_elim (λ x. x) (λ h. absurd (omega arith)) (over.0 e)), λ x. over.1 (inl x)) 8 (lit≤ tt) λ n. gave _)

  -- a verdict
  pub verdict_order : (ma mb : ℕ) → InOrder (of_link (of_masts ma mb) file b z p q) (verdict file b z p q ma mb)
  unfolding verdict
  verdict_order ma mb = giving (λ l. clear l ma mb) (masts_order ma mb)

  -- a row
  pub row_order : (i : ℕ) → InOrder (of_link (of_row p q i) file b z p q) (row file b z p q i)
  unfolding row
  row_order i =
      giving (λ l. row_of l i)
      (link_order 0 0 i (where_so _ (ltb-true (N (Q p q)) i, lt-ltb (N (Q p q)) i) 8 (lit≤ tt) λ n. gave _))

  -- the verdict on two masts within limits that were asked for
  verdict_of : {la lb ma mb : ℕ} (l : Link) → linked file b z (ask_masts p q la lb) ≡ given l → ma ≤ la → mb ≤ lb
      → verdict file b z p q ma mb ≡ given (clear l ma mb)
  unfolding verdict
  verdict_of {la} {lb} {ma} {mb} l e first second =
      let i = link_is file b z (ask_masts p q la lb) l e in
      let all = same_link file b z (ask_masts p q la lb) (rw i.path.is at i.asked) in
      let own = same_link file b z (ask_masts p q ma mb) (record { a = omega (arith, i.asked.a); b = omega (arith, i.asked.b); i = omega arith }) in
      simp (own, ← all, e)

  -- a plan, with 9 after the samples
  pub plan_order : (la lb : ℕ) → InOrder (of_link (of_masts la lb) file b z p q ++ of_pairs file b z p q la lb) (plan file b z p q la lb)
  plan_order la lb =
      after (λ l. plan_of (clear l) la lb) (masts_order la lb) λ l e.
      record {
        refuses = ⊎_elim
            (λ x.
            let pair = x.1.1.pair in
            inr ((λ none. none _ _ pair.first pair.second (verdict_of l e pair.first pair.second ∙ ap given pair.clear)), (x.0, x.1.0)))
            (λ x. inl (
              (λ ma mb first second v. x.1 ma mb (record { first = first; second = second; clear = cc (verdict_of l e first second, v) })),
              (x.0, lit≤ tt),
            ))
            (planned (clear l) la lb);
      }
