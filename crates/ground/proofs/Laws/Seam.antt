-- Where a point may be read: exactly in the rectangles whose grid holds it, four at most, in falling order of their numbers; each is one of the file's, and
-- the corners that weigh in are words of its record. From the laws of places. Assumes nothing.
use mathlib.Core.Path.{◌≡◌, refl}
use mathlib.Core.Logic.{◌↔◌, ◌⊎◌, inl, inr, ⊎_elim}
use mathlib.Core.Bool.{Bool, true, false, ◌&&◌, and-eq-true_iff, false≢true}
use mathlib.Core.List.{List, [], ◌∷◌}
use Prim.Native.Nat.{ℕ, zero, suc, ◌+◌, ◌-◌, ◌*◌, ◌≤◌, ◌<◌}
use native.Mathlib.Decide.{ℕ_discrete}
use native.Mathlib.Omega.{arith}
use lib.Dec.{leb, eqb, lit≤}
use lib.ListN.{length}
use borrow.Author.Tests.{leb-true, eqb-true, le-leb, eq-eqb}
use Rattle.ground.specs.Measure.{metres, units}
use Rattle.ground.specs.Boundary.{rows}
use Rattle.ground.specs.Ground.{ground_of, holds}
use Rattle.ground.specs.Place.{number, weights_of, place_of, words_of, AtEach}
use Rattle.ground.specs.Seam.{west_allowed, south_allowed, in_west, in_south, when, allowed, GridHolds, Among, FallFrom}
use Rattle.ground.specs.declared.Ground.{Ground}
use Rattle.ground.specs.declared.point.Point.{Point}
use Rattle.ground.specs.declared.place.Place.{Place}
use Rattle.ground.proofs.Laws.Boundary.{rows_high}
use Rattle.ground.proofs.Laws.Ground.{held}
use Rattle.ground.proofs.Laws.Place.{Lies, lies}

-- what a test of an edge means: the units and the metres past it are 0, and a rectangle lies beyond
pub record OnEdge (w f i : ℕ) : Type 0 where
  pub units : w ≡ 0
  pub metres : f ≡ 0
  pub beyond : 1 ≤ i

-- the test of an edge holds exactly where a point is on it
edge_is : (w f i : ℕ) → ((eqb w 0 && eqb f 0 && leb 1 i) ≡ true) ↔ OnEdge w f i
edge_is w f i = (
  (λ e.
      let t = (and-eq-true_iff (eqb w 0 && eqb f 0) (leb 1 i)).0 e in
      let u = (and-eq-true_iff (eqb w 0) (eqb f 0)).0 t.0 in
      record { units = eqb-true _ _ u.0; metres = eqb-true _ _ u.1; beyond = leb-true _ _ t.1 }),
  λ o. simp (eq-eqb _ _ o.units, eq-eqb _ _ o.metres, le-leb _ _ o.beyond),
)

-- when the rectangle to the west is allowed
pub on_west : (s : Place) → (west_allowed s ≡ true) ↔ OnEdge s.wx.0 s.fx.0 s.rectangle.ix
on_west s = edge_is s.wx.0 s.fx.0 s.rectangle.ix

-- when the rectangle to the south is allowed
pub on_south : (s : Place) → (south_allowed s ≡ true) ↔ OnEdge s.wy.0 s.fy.0 s.rectangle.iy
on_south s = edge_is s.wy.0 s.fy.0 s.rectangle.iy

-- the rectangle to the west has the number before
pub west_number : (s : Place) → west_allowed s ≡ true → number s.rectangle ≡ number (in_west s).rectangle + 1
west_number s e = omega (arith, ((on_west s).0 e).beyond)

-- the rectangle to the south has the number 100 before
pub south_number : (s : Place) → south_allowed s ≡ true → number s.rectangle ≡ number (in_south s).rectangle + 100
south_number s e = omega (arith, ((on_south s).0 e).beyond)

-- the rectangle to the south-west has the number 101 before
pub corner_number : (s : Place) → (west_allowed s && south_allowed s) ≡ true → number s.rectangle ≡ number (in_south (in_west s)).rectangle + 101
corner_number s e =
    let t = (and-eq-true_iff (west_allowed s) (south_allowed s)).0 e in
    omega (arith, west_number s t.0, south_number (in_west s) t.1)

-- a place is among these where a test adds one: it is that one, and the test holds, or it is among the others
among_when : {t : Place} (c : Bool) (u : Place) (rest : List Place) → Among t (when c u rest) ↔ (((c ≡ true) × (t ≡ u)) ⊎ Among t rest)
among_when true u rest = (⊎_elim (λ e. inl (refl, e)) inr, ⊎_elim (λ x. inl x.1) inr)
among_when false u rest = (inr, ⊎_elim (λ x. absurd (false≢true x.0)) (λ a. a))

-- the places where a point may be read, case by case
pub data Four (s t : Place) : Type 0 where
  own : t ≡ s → Four s t
  west : west_allowed s ≡ true → t ≡ in_west s → Four s t
  south : south_allowed s ≡ true → t ≡ in_south s → Four s t
  corner : west_allowed s ≡ true → south_allowed s ≡ true → t ≡ in_south (in_west s) → Four s t

-- the list has these cases and no others
pub four_is : (s t : Place) → Among t (allowed s) ↔ Four s t
unfolding allowed
four_is s t = (
  ⊎_elim own λ b.
      ⊎_elim (λ x. west x.0 x.1) (λ c.
      ⊎_elim (λ x. south x.0 x.1) (λ d.
      ⊎_elim (λ x. let both = (and-eq-true_iff w v).0 x.0 in corner both.0 both.1 x.1) absurd (fourth.0 d)) (third.0 c)) (second.0 b),
  from,
)
  where
    w : Bool
    w = west_allowed s

    v : Bool
    v = south_allowed s

    last : List Place
    last = when (w && v) (in_south (in_west s)) []

    fourth : Among t last ↔ (((w && v) ≡ true) × (t ≡ in_south (in_west s))) ⊎ ⊥
    fourth = among_when {t = t} (w && v) (in_south (in_west s)) []

    third : Among t (when v (in_south s) last) ↔ ((v ≡ true) × (t ≡ in_south s)) ⊎ Among t last
    third = among_when {t = t} v (in_south s) last

    second : Among t (when w (in_west s) (when v (in_south s) last)) ↔ ((w ≡ true) × (t ≡ in_west s)) ⊎ Among t (when v (in_south s) last)
    second = among_when {t = t} w (in_west s) (when v (in_south s) last)

    from : Four s t → Among t (allowed s)
    from (own e) = inl e
    from (west x e) = inr (second.1 (inl (x, e)))
    from (south y e) = inr (second.1 (inr (third.1 (inl (y, e)))))
    from (corner x y e) = inr (second.1 (inr (third.1 (inr (fourth.1 (inl ((and-eq-true_iff w v).1 (x, y), e)))))))

module _ (g : Ground) (p : Point) where
  -- a point that may be read from the rectangle to the west lies in its grid, in column 15
  west_holds : {s : Place} → GridHolds g p s → west_allowed s ≡ true → GridHolds g p (in_west s)
  west_holds {s} l e =
      let o = (on_west s).0 e in
      record {
        easting = omega (arith, l.easting, o.units, o.beyond);
        northing = l.northing;
        fx = l.fx;
        fy = l.fy;
        east = omega (arith, o.metres);
        north = l.north;
        weights = l.weights;
      }

  -- a point that may be read from the rectangle to the south lies in its grid, in row 31
  south_holds : {s : Place} → GridHolds g p s → south_allowed s ≡ true → GridHolds g p (in_south s)
  south_holds {s} l e =
      let o = (on_south s).0 e in
      record {
        easting = l.easting;
        northing = omega (arith, l.northing, o.units, o.beyond);
        fx = l.fx;
        fy = l.fy;
        east = l.east;
        north = omega (arith, o.metres);
        weights = l.weights;
      }

  -- the places of a point in one rectangle are one place
  one_place : {s t : Place} → GridHolds g p s → GridHolds g p t → t.rectangle.iy ≡ s.rectangle.iy → t.rectangle.ix ≡ s.rectangle.ix → t ≡ s
  unfolding weights_of
  one_place {s} {t} l m y x =
      let wx : t.wx.0 ≡ s.wx.0 = omega (arith, l.easting, m.easting, l.fx, m.fx) in
      let wy : t.wy.0 ≡ s.wy.0 = omega (arith, l.northing, m.northing, l.fy, m.fy) in
      let fx : t.fx.0 ≡ s.fx.0 = omega (arith, l.easting, m.easting, l.fx, m.fx) in
      let fy : t.fy.0 ≡ s.fy.0 = omega (arith, l.northing, m.northing, l.fy, m.fy) in
      let weights : t.weights ≡ s.weights = rw (l.weights, m.weights, fx, fy) in
      λ i.
      record {
        rectangle = record { iy = y i; ix = x i };
        wx = units (wx i);
        wy = units (wy i);
        fx = metres (fx i);
        fy = metres (fy i);
        weights = weights i;
      }

  -- where a point may be read: exactly where a grid holds it
  module _ {s : Place} (l : Lies g p s) (t : Place) where
    -- a place whose rectangle is allowed is one whose grid holds the point
    allowed_holds : Four s t → GridHolds g p t
    allowed_holds (own e) = rw e l.grid
    allowed_holds (west w e) = rw e (west_holds l.grid w)
    allowed_holds (south v e) = rw e (south_holds l.grid v)
    allowed_holds (corner w v e) = rw e (south_holds (west_holds l.grid w) v)

    module _ (m : GridHolds g p t) where
      -- a grid in another column that holds the point is that of the next column to the west
      westward : (t.rectangle.ix ≡ s.rectangle.ix → ⊥) → (west_allowed s ≡ true) × (t.rectangle.ix ≡ s.rectangle.ix - 1)
      westward n =
          let x : (s.wx.0 ≡ 0) × ((s.fx.0 ≡ 0) × (s.rectangle.ix ≡ t.rectangle.ix + 1)) = omega (arith, l, l.grid, m) in
          ((on_west s).1 (record { units = x.0; metres = x.1.0; beyond = omega (arith, x.1.1) }), omega (arith, x.1.1))

      -- a grid in another row that holds the point is that of the next row to the south
      southward : (t.rectangle.iy ≡ s.rectangle.iy → ⊥) → (south_allowed s ≡ true) × (t.rectangle.iy ≡ s.rectangle.iy - 1)
      southward n =
          let y : (s.wy.0 ≡ 0) × ((s.fy.0 ≡ 0) × (s.rectangle.iy ≡ t.rectangle.iy + 1)) = omega (arith, l, l.grid, m) in
          ((on_south s).1 (record { units = y.0; metres = y.1.0; beyond = omega (arith, y.1.1) }), omega (arith, y.1.1))

      -- a place whose grid holds the point is one of the four
      holds_allowed : Dec (t.rectangle.ix ≡ s.rectangle.ix) → Dec (t.rectangle.iy ≡ s.rectangle.iy) → Four s t
      holds_allowed (yes x) (yes y) = own (one_place l.grid m y x)
      holds_allowed (no x) (yes y) =
          let w = westward x in
          west w.0 (one_place (west_holds l.grid w.0) m y w.1)
      holds_allowed (yes x) (no y) =
          let v = southward y in
          south v.0 (one_place (south_holds l.grid v.0) m v.1 x)
      holds_allowed (no x) (no y) =
          let w = westward x in
          let v = southward y in
          corner w.0 v.0 (one_place (south_holds (west_holds l.grid w.0) v.0) m v.1 w.1)

-- a point that the ground holds may be read exactly in the rectangles whose grid holds it
pub allowed_exactly : (g : Ground) (p : Point) → holds g p ≡ true → (t : Place) → Among t (allowed (place_of g p)) ↔ GridHolds g p t
allowed_exactly g p h t =
    let l = lies g p h in
    let f = four_is (place_of g p) t in
    ((λ a. allowed_holds g p l t (f.0 a)), λ m. f.1 (holds_allowed g p l t m (ℕ_discrete _ _) (ℕ_discrete _ _)))

-- four at most, in falling order of their numbers
pub allowed_fall : (s : Place) → FallFrom (number s.rectangle + 1) (allowed s) × (length (allowed s) ≤ 4)
unfolding allowed
allowed_fall s = go (west_allowed s) (south_allowed s) (λ e. ((on_west s).0 e).beyond) (λ e. ((on_south s).0 e).beyond)
  where
    go : (w v : Bool) → (w ≡ true → 1 ≤ s.rectangle.ix) → (v ≡ true → 1 ≤ s.rectangle.iy) → (
        let l = s ∷ when w (in_west s) (when v (in_south s) (when (w && v) (in_south (in_west s)) [])) in
        FallFrom (number s.rectangle + 1) l × (length l ≤ 4)
        )
    go true true x y = ((omega arith, (omega (arith, x refl), (omega (arith, y refl), (omega (arith, x refl, y refl), tt)))), lit≤ tt)
    go true false x y = ((omega arith, (omega (arith, x refl), tt)), lit≤ tt)
    go false true x y = ((omega arith, (omega (arith, y refl), tt)), lit≤ tt)
    go false false x y = ((omega arith, tt), lit≤ tt)

-- a rectangle whose grid holds a point of the ground is one of the file's
pub number_within : (b z : ℕ) (p : Point) → holds (ground_of b z) p ≡ true → {s : Place} → GridHolds (ground_of b z) p s
    → number s.rectangle < 100 * rows b
number_within b z p h {s} m =
    let t = held (ground_of b z) p h in
    let iy : s.rectangle.iy < rows b = omega (arith, t.north, m.northing, rows_high b) in
    let ix : s.rectangle.ix ≤ 99 = omega (arith, t.east, m.easting) in
    omega arith

-- a weight that is above 0 has both its parts above 0
parts : (a b : ℕ) → 0 < a * b → (0 < a) × (0 < b)
parts zero b l = absurd (omega arith)
parts (suc a) zero l = absurd (omega arith)
parts (suc a) (suc b) l = (omega arith, omega arith)

-- the corners that weigh in are among the 512 words of the record
pub words_within : {g : Ground} {p : Point} {s : Place} → GridHolds g p s
    → AtEach (λ w weight. (1 ≤ w) × (0 < weight → w ≤ 512)) (words_of s) s.weights
unfolding weights_of
words_within {s = s} m =
    rw m.weights
    (record {
      sw = (omega arith, λ l. omega (arith, m.east, m.north));
      se = (omega arith, λ l. omega (arith, m.east, m.north, parts _ _ l));
      nw = (omega arith, λ l. omega (arith, m.east, m.north, parts _ _ l));
      ne = (omega arith, λ l. omega (arith, m.east, m.north, parts _ _ l));
    })
