-- Sentences of documents 01 and 02 that the promises and the order of checks rest on, in bytes and in numbers: where a point lies and what its corners weigh,
-- which bytes a position is, when a file passes, when a rectangle is not covered, which bases and zones are named, when the lists of a survey fit and which
-- points they hold, and the numbers of each call in their order. They are stated in bytes and numbers, so that no definition that they speak of can be wrong
-- in the same way as the program. Assumes nothing.
use mathlib.Core.Path.{◌≡◌, refl, ◌∙◌, ap}
use mathlib.Core.Logic.{◌⊎◌, inl, inr, ⊎_elim, ◌↔◌}
use mathlib.Core.Bool.{true, false, ◌&&◌, and-eq-true_iff}
use mathlib.Core.List.{List, [], ◌∷◌, ◌++◌}
use Prim.Native.Nat.{ℕ, zero, suc, ◌+◌, ◌-◌, ◌*◌, ◌/◌, ◌%◌, ◌≤◌, ◌<◌}
use native.Mathlib.Omega.{arith}
use lib.Dec.{eqb-suc-zero}
use lib.ListN.{length, get_or}
use Rattle.ground.specs.Outcome.{given}
use Rattle.ground.specs.Measure.{metres, units}
use Rattle.ground.specs.Boundary.{y_b, rows, named}
use Rattle.ground.specs.Place.{number, words_of, weights_of, place_at, place_of}
use Rattle.ground.specs.Seam.{west_allowed, south_allowed, in_west, in_south, when, beside, allowed}
use Rattle.ground.specs.declared.point.Point.{Point}
use Rattle.ground.specs.declared.place.Place.{Place}
use Rattle.ground.proofs.Laws.Seam as seam
use Rattle.ground.proofs.Laws.Seam.{on_west, on_south, Four, four_is}
use Rattle.index.specs.Bytes.{nth, records, Whole}
use Rattle.index.specs.Index.{position, HighestIn, Passes}
use Rattle.terrain.specs.Record.{entry, first_covered, taken, Uncovered}
use Rattle.terrain.specs.declared.record.Taken.{Taken}
use Rattle.terrain.proofs.Laws.Checked.{not_covered}
use Rattle.terrain.proofs.Laws.Taken.{covered_taken, passed_over, uncovered_is}
use Rattle.reading.specs.Vote.{Greatest}
use Rattle.spot.specs.Spot.{LooksAt, NamesNoRecord}
use Rattle.spot.proofs.Laws.Spot.{looks_when}
use Rattle.survey.specs.Survey.{Lists, five_lists, most_points, point_count, point_at, Unfit}
use Rattle.survey.proofs.Laws.Lists.{most_points_is, count_is, point_is, lists_is, ListsFit, fits_exactly}
use Rattle.path.specs.Path.{Q, N, path_of, sample, farthest, tallest}
use Rattle.path.proofs.Laws.Path.{farthest_is}
use Rattle.janlishuk.specs.Order.{Line, FirstOf, IsNamed, OnGround, placed, of_file, of_name, of_northing, of_point, of_ends, of_masts, of_row, of_samples, of_pairs, of_reading, of_spot, of_upload, of_taking, of_profile, of_verdict, of_plan, of_engine_row}

-- "With x = E / 500, y = N / 500 truncated: Iy = (y - yB) / 31, Ix = (x - 250) / 15, rectangle n = 100 Iy + Ix. In it wx = x - 250 - 15 Ix,
-- wy = y - yB - 31 Iy, word w = 16 wy + wx + 1. The corners are words w, w+1, w+16, w+17." "fx = E mod 500, fy = N mod 500. Weights: SW (500-fx)(500-fy),
-- SE fx(500-fy), NW (500-fx)fy, NE fx fy."
module _ (b z : ℕ) (p : Point) where
  abbrev x : ℕ
  x = p.easting.0 / 500

  abbrev y : ℕ
  y = p.northing.0 / 500

  abbrev Ix : ℕ
  Ix = (x - 250) / 15

  abbrev Iy : ℕ
  Iy = (y - (y_b b).0) / 31

  abbrev wx : ℕ
  wx = x - 250 - 15 * Ix

  abbrev wy : ℕ
  wy = y - (y_b b).0 - 31 * Iy

  abbrev w : ℕ
  w = 16 * wy + wx + 1

  abbrev pub fx : ℕ
  fx = p.easting.0 % 500

  abbrev pub fy : ℕ
  fy = p.northing.0 % 500

  pub rectangle_number : number (placed b z p).rectangle ≡ 100 * Iy + Ix
  unfolding place_of place_at
  rectangle_number = refl

  pub corner_words : words_of (placed b z p) ≡ record { sw = w; se = w + 1; nw = w + 16; ne = w + 17 }
  unfolding place_of place_at
  corner_words = refl

  pub past_corner : ((placed b z p).fx.0 ≡ fx) × ((placed b z p).fy.0 ≡ fy)
  unfolding place_of place_at
  past_corner = (refl, refl)

  pub corner_weights : (placed b z p).weights
      ≡ record { sw = (500 - fx) * (500 - fy); se = fx * (500 - fy); nw = (500 - fx) * fy; ne = fx * fy }
  unfolding place_of place_at weights_of
  corner_weights = refl

-- "Records 1 to 6 are the index: 3072 16-bit positions, numbered from 1. Position n holds the record number for rectangle n, 0 if not covered. Rectangle 0 has no
-- position and is never covered." "House: numbers are high byte first."
module _ (file : List ℕ) where
  abbrev pub at : ℕ → ℕ
  at n = 256 * get_or file (2 * (n - 1)) 0 + get_or file (2 * (n - 1) + 1) 0

  pub position_bytes : (n : ℕ) → position file n ≡ at n
  unfolding nth
  position_bytes n = refl

  pub rectangle_0 : entry file 0 ≡ 0
  unfolding entry
  rectangle_0 = refl

  pub own_position : (n : ℕ) → 1 ≤ n → entry file n ≡ at n
  unfolding entry nth
  own_position zero h = absurd (omega arith)
  own_position (suc n) h = rw eqb-suc-zero

  -- rectangle n is not covered: it is rectangle 0, or its position holds 0
  abbrev NotCovered : ℕ → Type 0
  NotCovered n = (n ≡ 0) ⊎ (at n ≡ 0)

  pub not_covered_means : (n : ℕ) → (entry file n ≡ 0) ↔ NotCovered n
  unfolding nth
  not_covered_means n = not_covered file n

  covered_entry : (n : ℕ) → (NotCovered n → ⊥) → entry file n ≡ at n
  covered_entry zero c = absurd (c (inl refl))
  covered_entry (suc n) c = own_position (suc n) (omega arith)

  -- Document 02, request b), which says from which rectangle a point is read: "When the own rectangle isn't covered, a point with wx = 0 and fx = 0 may be read
  -- from column 15 of the rectangle to the west, one with wy = 0 and fy = 0 from row 31 of the one to the south, and one with all four 0 also from the corner
  -- of the south-west one. Try own, west, south, south-west, and take the first covered. No rectangle lies west of column 0 or south of row 0, and rectangle 0
  -- stays uncovered."
  module _ (b z : ℕ) (p : Point) where
    abbrev OnWest : Type 0
    OnWest = (wx b z p ≡ 0) × (fx b z p ≡ 0) × (1 ≤ Ix b z p)

    abbrev OnSouth : Type 0
    OnSouth = (wy b z p ≡ 0) × (fy b z p ≡ 0) × (1 ≤ Iy b z p)

    -- the numbers of the four rectangles
    abbrev own : ℕ
    own = 100 * Iy b z p + Ix b z p

    abbrev west : ℕ
    west = 100 * Iy b z p + (Ix b z p - 1)

    abbrev south : ℕ
    south = 100 * (Iy b z p - 1) + Ix b z p

    abbrev south_west : ℕ
    south_west = 100 * (Iy b z p - 1) + (Ix b z p - 1)

    -- the record that the position of rectangle 100 iy + ix names, and the point at this row and column of it
    abbrev pub standing : (iy ix row column : ℕ) → Taken
    standing iy ix row column =
        record {
          entry = at (100 * iy + ix);
          place = record {
            rectangle = record { iy = iy; ix = ix };
            wx = units column;
            wy = units row;
            fx = metres (fx b z p);
            fy = metres (fy b z p);
            weights = (placed b z p).weights;
          };
        }

    -- which rectangles are allowed, in the document's letters
    west_is : (west_allowed (placed b z p) ≡ true) ↔ OnWest
    unfolding place_of place_at
    west_is =
        let law = on_west (placed b z p) in
        ((λ e. let o = law.0 e in (o.units, o.metres, o.beyond)), λ o. law.1 (record { units = o.0; metres = o.1; beyond = o.2 }))

    south_is : (south_allowed (placed b z p) ≡ true) ↔ OnSouth
    unfolding place_of place_at
    south_is =
        let law = on_south (placed b z p) in
        ((λ e. let o = law.0 e in (o.units, o.metres, o.beyond)), λ o. law.1 (record { units = o.0; metres = o.1; beyond = o.2 }))

    -- past the own rectangle, which is not covered
    past_own : NotCovered own → taken file (placed b z p) ≡ first_covered file (beside (placed b z p))
    unfolding place_of place_at taken allowed
    past_own n = passed_over file true (placed b z p) (beside (placed b z p)) (λ t. (not_covered_means own).1 n)

    -- past the rectangle to the west, which is not allowed or not covered
    past_west : NotCovered own → (OnWest → NotCovered west)
        → taken file (placed b z p)
        ≡ first_covered file (when (south_allowed (placed b z p)) (in_south (placed b z p))
        (when (west_allowed (placed b z p) && south_allowed (placed b z p)) (in_south (in_west (placed b z p))) []))
    unfolding place_of place_at
    past_west n w =
        past_own n ∙ passed_over file (west_allowed (placed b z p)) (in_west (placed b z p)) _ (λ e. (not_covered_means west).1 (w (west_is.0 e)))

    pub own_taken : (NotCovered own → ⊥) → taken file (placed b z p) ≡ given (standing (Iy b z p) (Ix b z p) (wy b z p) (wx b z p))
    unfolding place_of place_at taken allowed
    own_taken c =
        rw (← covered_entry own c) (covered_taken file {c = true} (placed b z p) (beside (placed b z p)) refl (λ e. c ((not_covered_means own).0 e)))

    pub west_taken : NotCovered own → OnWest → (NotCovered west → ⊥) → taken file (placed b z p) ≡ given (standing (Iy b z p) (Ix b z p - 1) (wy b z p) 15)
    unfolding place_of place_at
    west_taken n o c =
        past_own n ∙ rw (← covered_entry west c) (covered_taken file (in_west (placed b z p)) _ (west_is.1 o) (λ e. c ((not_covered_means west).0 e)))

    pub south_taken : NotCovered own → (OnWest → NotCovered west) → OnSouth → (NotCovered south → ⊥)
        → taken file (placed b z p) ≡ given (standing (Iy b z p - 1) (Ix b z p) 31 (wx b z p))
    unfolding place_of place_at
    south_taken n w o c =
        past_west n w ∙ rw (← covered_entry south c) (covered_taken file (in_south (placed b z p)) _ (south_is.1 o) (λ e. c ((not_covered_means south).0 e)))

    pub corner_taken : NotCovered own → (OnWest → NotCovered west) → (OnSouth → NotCovered south) → OnWest → OnSouth → (NotCovered south_west → ⊥)
        → taken file (placed b z p) ≡ given (standing (Iy b z p - 1) (Ix b z p - 1) 31 15)
    unfolding place_of place_at
    corner_taken n w v o q c =
        past_west n w
        ∙ passed_over file (south_allowed (placed b z p)) (in_south (placed b z p)) _ (λ e. (not_covered_means south).1 (v (south_is.0 e)))
        ∙ rw (← covered_entry south_west c)
        (covered_taken file (in_south (in_west (placed b z p))) [] ((and-eq-true_iff _ _).1 (west_is.1 o, south_is.1 q))
        (λ e. c ((not_covered_means south_west).0 e)))

    -- 5: "when none of the allowed rectangles is covered"
    pub record NoneCovered : Type 0 where
      pub of_own : NotCovered own
      pub of_west : OnWest → NotCovered west
      pub of_south : OnSouth → NotCovered south
      pub of_corner : OnWest → OnSouth → NotCovered south_west

    pub uncovered_means : Uncovered file (placed b z p) ↔ NoneCovered
    unfolding place_of place_at
    uncovered_means =
        let law = uncovered_is file (placed b z p) in (
          (λ none.
              let at : (u : Place) → Four (placed b z p) u → NotCovered (number u.rectangle) =
              λ u f. (not_covered_means (number u.rectangle)).0 (law.0 none u ((four_is (placed b z p) u).1 f)) in
              record {
                of_own = at _ (seam.own refl);
                of_west = λ o. at _ (seam.west (west_is.1 o) refl);
                of_south = λ o. at _ (seam.south (south_is.1 o) refl);
                of_corner = λ o q. at _ (seam.corner (west_is.1 o) (south_is.1 q) refl);
              }),
          λ k. law.1 (λ u a. (not_covered_means (number u.rectangle)).1 (go k u ((four_is (placed b z p) u).0 a))),
        )
      where
        go : NoneCovered → (u : Place) → Four (placed b z p) u → NotCovered (number u.rectangle)
        go k u (seam.own e) = rw e k.of_own
        go k u (seam.west w e) = rw e (k.of_west (west_is.0 w))
        go k u (seam.south v e) = rw e (k.of_south (south_is.0 v))
        go k u (seam.corner w v e) = rw e (k.of_corner (west_is.0 w) (south_is.0 v))

    -- Document 02, request c), which says what a spot looks at: "this point's entries in the order of request b), stopping at the first that isn't 0, and at no
    -- others". Position n is looked at.
    pub data Looked (n : ℕ) : Type 0 where
      at_own : 1 ≤ own → n ≡ own → Looked n
      at_west : NotCovered own → OnWest → 1 ≤ west → n ≡ west → Looked n
      at_south : NotCovered own → (OnWest → NotCovered west) → OnSouth → 1 ≤ south → n ≡ south → Looked n
      at-corner :
          NotCovered own
          → (OnWest → NotCovered west)
          → (OnSouth → NotCovered south)
          → OnWest
          → OnSouth
          → 1 ≤ south_west
          → n ≡ south_west
          → Looked n

    pub looked_means : (n : ℕ) → LooksAt file (allowed (placed b z p)) n ↔ Looked n
    unfolding place_of place_at allowed
    looked_means n = (
      ⊎_elim (λ h. at_own h.0 h.1) (λ h.
          let of_own = (not_covered_means own).0 h.0 in
          ⊎_elim (λ x. at_west of_own (west_is.0 x.0) x.1.0 x.1.1) (λ x.
          let of_west : OnWest → NotCovered west = λ o. (not_covered_means west).0 (x.0 (west_is.1 o)) in
          ⊎_elim (λ y. at_south of_own of_west (south_is.0 y.0) y.1.0 y.1.1) (λ y.
          let of_south : OnSouth → NotCovered south = λ o. (not_covered_means south).0 (y.0 (south_is.1 o)) in
          ⊎_elim (λ c.
          let both = (and-eq-true_iff (west_allowed s) (south_allowed s)).0 c.0 in
          at-corner of_own of_west of_south (west_is.0 both.0) (south_is.0 both.1) c.1.0 c.1.1) (λ c. absurd c.1) (third.0 y.1))
          (second.0 x.1)) (first.0 h.1)),
      from,
    )
      where
        s : Place
        s = placed b z p

        last : List Place
        last = when (west_allowed s && south_allowed s) (in_south (in_west s)) []

        first : LooksAt file (beside s) n
            ↔ (((west_allowed s ≡ true) × ((1 ≤ west) × (n ≡ west))) ⊎ ((west_allowed s ≡ true → entry file west ≡ 0) × LooksAt file (when (south_allowed s) (in_south s) last) n))
        first = looks_when file (west_allowed s) (in_west s) (when (south_allowed s) (in_south s) last) n

        second : LooksAt file (when (south_allowed s) (in_south s) last) n
            ↔ (((south_allowed s ≡ true) × ((1 ≤ south) × (n ≡ south))) ⊎ ((south_allowed s ≡ true → entry file south ≡ 0) × LooksAt file last n))
        second = looks_when file (south_allowed s) (in_south s) last n

        third : LooksAt file last n
            ↔ ((((west_allowed s && south_allowed s) ≡ true) × ((1 ≤ south_west) × (n ≡ south_west))) ⊎ (((west_allowed s && south_allowed s) ≡ true → entry file south_west ≡ 0) × ⊥))
        third = looks_when file (west_allowed s && south_allowed s) (in_south (in_west s)) [] n

        from : Looked n → LooksAt file (allowed s) n
        from (at_own l e) = inl (l, e)
        from (at_west of_own o l e) = inr ((not_covered_means own).1 of_own, first.1 (inl (west_is.1 o, (l, e))))
        from (at_south of_own of_west o l e) =
            inr (
              (not_covered_means own).1 of_own,
              first.1 (inr ((λ t. (not_covered_means west).1 (of_west (west_is.0 t))), second.1 (inl (south_is.1 o, (l, e))))),
            )
        from (at-corner of_own of_west of_south o q l e) =
            inr (
              (not_covered_means own).1 of_own,
              first.1 (inr (
                (λ t. (not_covered_means west).1 (of_west (west_is.0 t))),
                second.1 (inr (
                  (λ t. (not_covered_means south).1 (of_south (south_is.0 t))),
                  third.1 (inl ((and-eq-true_iff (west_allowed s) (south_allowed s)).1 (west_is.1 o, south_is.1 q), (l, e))),
                )),
              )),
            )

    -- what is looked at has a position
    looked_entry : (n : ℕ) → Looked n → entry file n ≡ at n
    looked_entry n (at_own l e) = own_position n (omega arith)
    looked_entry n (at_west a b l e) = own_position n (omega arith)
    looked_entry n (at_south a b c l e) = own_position n (omega arith)
    looked_entry n (at-corner a b c d e l q) = own_position n (omega arith)

    -- 3 of an entry: "the first entry looked at that is neither 0 nor 7 to M"
    pub record NamesNone : Type 0 where
      pub position : ℕ
      pub looked : Looked position
      pub some : at position ≡ 0 → ⊥
      pub other : (7 ≤ at position) × (at position ≤ at 3072) → ⊥

    pub names_none_means : NamesNoRecord file (placed b z p) ↔ NamesNone
    unfolding nth
    names_none_means = (
      (λ k.
          let l = (looked_means k.at).0 k.looked in
          let is = looked_entry k.at l in
          record { position = k.at; looked = l; some = rw is at k.some; other = rw is at k.other }),
      λ k.
          let is = looked_entry k.position k.looked in
          record { at = k.position; looked = (looked_means k.position).1 k.looked; some = rw is k.some; other = rw is k.other },
    )

  -- M is outside its range exactly where it is not from 6 to the number of records
  pub highest_means : HighestIn file ↔ ((6 ≤ at 3072) × (at 3072 ≤ length file / 1024))
  unfolding nth
  highest_means = ((λ h. (h.least, h.most)), λ h. record { least = h.0; most = h.1 })

  -- 1: length not 1024 times a number from 6 to 4096
  pub record Long : Type 0 where
    pub count : ℕ
    pub least : 6 ≤ count
    pub most : count ≤ 4096
    pub long : length file ≡ 1024 * count

  pub whole_means : Whole file ↔ Long
  whole_means = (
    (λ w. record { count = records file; least = w.least; most = w.most; long = w.multiple }),
    λ l.
        let c = l.count in
        let e : length file ≡ 1024 * c = l.long in
        let least : 6 ≤ c = l.least in
        let most : c ≤ 4096 = l.most in
        record { multiple = omega arith; least = omega arith; most = omega arith },
  )

  -- 3: M or a position breaks the file rules
  module _ (b : ℕ) where
    abbrev end : ℕ
    end = 100 * (((y_b (b + 4)).0 - (y_b b).0) / 31)

    pub record Rules : Type 0 where
      pub whole : Long
      pub M_least : 6 ≤ at 3072
      pub M_most : at 3072 ≤ whole.count
      pub held : (n : ℕ) → 1 ≤ n → n < end → (at n ≡ 0) ⊎ ((7 ≤ at n) × (at n ≤ at 3072))
      pub once : (m n : ℕ) → 1 ≤ m → m < n → n < end → at m ≡ at n → at n ≡ 0
      pub rest : (n : ℕ) → end ≤ n → n ≤ 3071 → at n ≡ 0

    pub passes_means : Passes file (rows b) ↔ Rules
    unfolding nth rows whole_means
    passes_means = (
      (λ p.
          record {
            whole = whole_means.0 p.whole;
            M_least = p.lowest_m;
            M_most = p.highest_m;
            held = p.entries;
            once = p.once;
            rest = p.rest;
          }),
      λ r.
          let c = r.whole.count in
          let long : length file ≡ 1024 * c = r.whole.long in
          let most : at 3072 ≤ c = r.M_most in
          record {
            whole = whole_means.1 r.whole;
            lowest_m = r.M_least;
            highest_m = omega arith;
            entries = r.held;
            once = r.once;
            rest = r.rest;
          },
    )

-- 2: the bases are 0, 4, .. 80 and the zones 1 to 60, tried at the bounds and beside them
pub named_bounds : (
    (named 0 1 ≡ true)
    × (named 80 60 ≡ true)
    × (named 76 59 ≡ true)
    × (named 84 60 ≡ false)
    × (named 80 61 ≡ false)
    × (named 0 0 ≡ false)
    × (named 2 1 ≡ false)
    × (named 79 1 ≡ false)
    )
unfolding named
named_bounds = (refl, refl, refl, refl, refl, refl, refl, refl)

-- 2: "base or zone not among those named", in numbers
abbrev pub NamedIn : (b z : ℕ) → Type 0
NamedIn b z = (b ≡ 4 * (b / 4)) × (b ≤ 80) × (1 ≤ z) × (z ≤ 60)

pub named_means : (b z : ℕ) → IsNamed b z ↔ NamedIn b z
named_means b z = ((λ n. (n.fours, n.most, n.first, n.last)), λ n. record { fours = n.0; most = n.1; first = n.2; last = n.3 })

-- 4: the point is "of the file's zone and on its ground", in numbers
abbrev pub Grounded : (b z : ℕ) → Point → Type 0
Grounded b z p =
    (p.zone ≡ z) × (125000 ≤ p.easting.0) × (p.easting.0 ≤ 874999) × (500 * (y_b b).0 ≤ p.northing.0) × (p.northing.0 < 500 * (y_b (b + 4)).0)

pub ground_means : (b z : ℕ) (p : Point) → OnGround b z p ↔ Grounded b z p
ground_means b z p = (
  (λ n. (n.zone, n.west, n.east, n.south, n.north)),
  λ n. record { zone = n.0; west = n.1; east = n.2; south = n.3; north = n.4 },
)

-- the code with the greatest sum of weights, ties to the smaller code
pub greatest_means : (f : ℕ → ℕ) (n best : ℕ) → Greatest f n best
    ↔ ((best ≤ n) × ((k : ℕ) → k ≤ n → f k ≤ f best) × ((k : ℕ) → k < best → f k < f best))
greatest_means f n best = ((λ g. (g.within, g.most, g.tie)), λ g. record { within = g.0; most = g.1; tie = g.2 })

-- the numbers that have a name, in the documents' digits: Q of 100 km, 100 m of mast, and 256 points. Where the last file ends, y = 18,662, is in the table.
pub named_numbers : (farthest ≡ 10000000000) × (tallest ≡ 100) × (most_points ≡ 256)
named_numbers = (farthest_is, refl, most_points_is)

-- five lent lists as one value, each under its own name
pub lent_lists : (e n h c r : List ℕ) → five_lists e n h c r ≡ record { eastings = e; northings = n; heights = h; codes = c; refusals = r }
lent_lists = lists_is

-- Document 02, request a): "up to 256 points, in two lent lists of eastings and northings in the file's zone".
module _ (l : Lists) where
  pub survey_count : point_count l ≡ length l.eastings
  survey_count = count_is l

  pub survey_point : (z i : ℕ) → point_at z l i ≡ record { zone = z; easting = metres (get_or l.eastings i 0); northing = metres (get_or l.northings i 0) }
  survey_point z i = point_is z l i

  -- 10 does not hold exactly where the two lists of points have one length, of at most 256, and none of the others is shorter
  pub unfit_means : (Unfit l → ⊥) ↔ ListsFit l
  unfit_means = fits_exactly l

-- the numbers of lines, in their order
abbrev numbers : List Line → List ℕ
numbers [] = []
numbers (l ∷ ls) = l.number ∷ numbers ls

-- the places of lines, in their order
abbrev places : List Line → List ℕ
places [] = []
places (l ∷ ls) = l.place ∷ places ls

-- lines one after the other
numbers_append : (ls ms : List Line) → numbers (ls ++ ms) ≡ (numbers ls ++ numbers ms)
numbers_append [] ms = refl
numbers_append (l ∷ ls) ms = ap (λ ns. l.number ∷ ns) (numbers_append ls ms)

places_append : (ls ms : List Line) → places (ls ++ ms) ≡ (places ls ++ places ms)
places_append [] ms = refl
places_append (l ∷ ls) ms = ap (λ ns. l.place ∷ ns) (places_append ls ms)

-- 4, 5, 6 for each of k samples
abbrev fours : ℕ → List ℕ
fours zero = []
fours (suc i) = fours i ++ (4 ∷ 5 ∷ 6 ∷ [])

-- the sample's number, three times, for each of k samples
abbrev thrice : ℕ → List ℕ
thrice zero = []
thrice (suc i) = thrice i ++ (i ∷ i ∷ i ∷ [])

-- lines with these numbers at these places
abbrev Numbered : List Line → List ℕ → List ℕ → Type 0
Numbered ls ns ps = (numbers ls ≡ ns) × (places ls ≡ ps)

-- "Order: 1, 2, 3, then 4 for the first end, 4 for the second, 7, 8, then samples from 0 upward, each tried for 4, 5, 6 in that order, then 9." "The place is the
-- sample number for refusals met at samples, else 0."
-- Document 02, request a): "Refusals: 1, 2, 3, then 10"; request c): "Refusals: 1, 2, 3 for M outside its range, 4, then 3 for the first entry looked at that is
-- neither 0 nor 7 to M, then 5 and 6."
module _ (file : List ℕ) (b z : ℕ) (p q : Point) (ma mb i : ℕ) (l : Lists) where
  -- how many samples the path has
  abbrev k : ℕ
  k = N (Q p q) + 1

  pub record InDocumentOrder : Type 1 where
    pub check : Numbered (of_file file b z) (1 ∷ 2 ∷ 3 ∷ []) (0 ∷ 0 ∷ 0 ∷ [])
    pub name : Numbered (of_name b z) (2 ∷ []) (0 ∷ [])
    pub base : Numbered (of_northing i) (4 ∷ []) (0 ∷ [])
    pub read : Numbered (of_reading file b z p) (1 ∷ 2 ∷ 3 ∷ 4 ∷ 5 ∷ 6 ∷ []) (0 ∷ 0 ∷ 0 ∷ 0 ∷ 0 ∷ 0 ∷ [])
    pub spot : Numbered (of_spot file b z p) (1 ∷ 2 ∷ 3 ∷ 4 ∷ 3 ∷ 5 ∷ 6 ∷ []) (0 ∷ 0 ∷ 0 ∷ 0 ∷ 0 ∷ 0 ∷ 0 ∷ [])
    pub upload : Numbered (of_upload file b z l) (1 ∷ 2 ∷ 3 ∷ 10 ∷ []) (0 ∷ 0 ∷ 0 ∷ 0 ∷ [])
    pub taking : Numbered (of_taking file b z p) (1 ∷ 2 ∷ 3 ∷ 4 ∷ 5 ∷ []) (0 ∷ 0 ∷ 0 ∷ 0 ∷ 0 ∷ [])
    pub profile : Numbered (of_profile file b z p q) ((1 ∷ 2 ∷ 3 ∷ 4 ∷ 4 ∷ 7 ∷ []) ++ fours k) ((0 ∷ 0 ∷ 0 ∷ 0 ∷ 0 ∷ 0 ∷ []) ++ thrice k)
    pub verdict : Numbered (of_verdict file b z p q ma mb) ((1 ∷ 2 ∷ 3 ∷ 4 ∷ 4 ∷ 7 ∷ 8 ∷ []) ++ fours k) ((0 ∷ 0 ∷ 0 ∷ 0 ∷ 0 ∷ 0 ∷ 0 ∷ []) ++ thrice k)
    pub row : Numbered (of_engine_row file b z p q i) ((1 ∷ 2 ∷ 3 ∷ 4 ∷ 4 ∷ 7 ∷ 8 ∷ []) ++ fours k) ((0 ∷ 0 ∷ 0 ∷ 0 ∷ 0 ∷ 0 ∷ 0 ∷ []) ++ thrice k)
    pub plan :
        Numbered (of_plan file b z p q ma mb) ((1 ∷ 2 ∷ 3 ∷ 4 ∷ 4 ∷ 7 ∷ 8 ∷ []) ++ (fours k ++ (9 ∷ []))) ((0 ∷ 0 ∷ 0 ∷ 0 ∷ 0 ∷ 0 ∷ 0 ∷ []) ++ (thrice k ++ (0 ∷ [])))

  -- lines one after the other have the numbers and places of both
  append : (ls ms : List Line) {ns ps os qs : List ℕ} → Numbered ls ns ps → Numbered ms os qs → Numbered (ls ++ ms) (ns ++ os) (ps ++ qs)
  append ls ms l m = (numbers_append ls ms ∙ λ t. l.0 t ++ m.0 t, places_append ls ms ∙ λ t. l.1 t ++ m.1 t)

  at_samples : (m : ℕ) → Numbered (of_samples file b z p q m) (fours m) (thrice m)
  unfolding of_samples
  at_samples zero = (refl, refl)
  at_samples (suc m) = append (of_samples file b z p q m) (of_point file b z m (sample (path_of p q) m)) (at_samples m) (refl, refl)

  -- the lines of a call on a path, up to those of the samples
  abbrev before : List Line → List Line
  before eight = of_file file b z ++ (of_ends b z p q ++ eight)

  pub in_document_order : InDocumentOrder
  in_document_order =
      let samples = of_samples file b z p q k in
      record {
        check = (refl, refl);
        name = (refl, refl);
        base = (refl, refl);
        read = (refl, refl);
        spot = (refl, refl);
        upload = (refl, refl);
        taking = (refl, refl);
        profile = append (before []) samples (refl, refl) (at_samples k);
        verdict = append (before (of_masts ma mb)) samples (refl, refl) (at_samples k);
        row = append (before (of_row p q i)) samples (refl, refl) (at_samples k);
        plan =
            let pairs = of_pairs file b z p q ma mb in
            append (before (of_masts ma mb)) (samples ++ pairs) (refl, refl) (append samples pairs (at_samples k) (refl, refl));
      }

-- "Each number is given exactly when its condition is the first to hold": where the first line's condition holds, its number and place are given
pub first_holds : (l : Line) (ls : List Line) (refusal place : ℕ) → FirstOf (l ∷ ls) refusal place → l.condition
    → (refusal ≡ l.number) × (place ≡ l.place)
first_holds l ls refusal place (inl h) c = h.1
first_holds l ls refusal place (inr h) c = absurd (h.0 c)

-- where it does not hold, the number and place of the lines after it are given
pub first_fails : (l : Line) (ls : List Line) (refusal place : ℕ) → FirstOf (l ∷ ls) refusal place → (l.condition → ⊥) → FirstOf ls refusal place
first_fails l ls refusal place (inl h) n = absurd (n h.0)
first_fails l ls refusal place (inr h) n = h.1

-- where no line is left, the call is not refused
pub first_none : (refusal place : ℕ) → FirstOf [] refusal place → (refusal ≡ 0) × (place ≡ 0)
first_none refusal place h = h
