-- What it means that a base and a zone are named, that a ground was opened, and that a ground holds a point, as facts about the numbers; and
-- that a ground holds exactly the metres that document 01 says. From the laws of the boundaries and of outcomes. Assumes nothing.
use mathlib.Core.Path.{◌≡◌, refl}
use mathlib.Core.Logic.{◌↔◌}
use mathlib.Core.Bool.{true, not, ◌&&◌, and-eq-true_iff}
use Prim.Native.Nat.{ℕ, ◌*◌, ◌≤◌, ◌<◌}
use native.Mathlib.Nat.{le_of_lt}
use native.Mathlib.Omega.{arith}
use lib.Dec.{leb, ltb, eqb}
use borrow.Author.Tests.{leb-true, ltb-true, eqb-true, le-leb, lt-ltb, eq-eqb, not-false}
use Rattle.ground.specs.Measure.{in_units}
use Rattle.ground.specs.Boundary.{is_base, is_zone, named, rows}
use Rattle.ground.specs.Outcome.{given}
use Rattle.ground.specs.Ground.{ground_of, rows_of, opened, on_ground, holds}
use Rattle.ground.specs.declared.point.Point.{Point}
use Rattle.ground.specs.declared.Ground.{Ground}
use Rattle.ground.proofs.Laws.Outcome.{past}
use Rattle.ground.proofs.Laws.Boundary.{base_at_lem, rows_28_29, rising}

-- a base and a zone that are named
pub record Named (b z : ℕ) : Type 0 where
  pub is : named b z ≡ true
  pub base : is_base b ≡ true
  pub most : b ≤ 80
  pub first : 1 ≤ z
  pub last : z ≤ 60

-- what the test of base and zone means
pub named_is : (b z : ℕ) → named b z ≡ true → Named b z
unfolding named
named_is b z h =
    let t = (and-eq-true_iff (is_base b) (is_zone z)).0 h in
    let r = (and-eq-true_iff (leb 1 z) (leb z 60)).0 t.1 in
    record {
      is = h;
      base = t.0;
      most = omega (arith, base_at_lem b t.0);
      first = leb-true _ _ r.0;
      last = leb-true _ _ r.1;
    }

-- a ground that was opened is that of a base and a zone that are named, and has 28 or 29 rows
pub record IsOpened (b z : ℕ) (g : Ground) : Type 0 where
  pub named : Named b z
  pub is : g ≡ ground_of b z
  pub rising : g.south.0 ≤ g.north.0
  pub rows : (28 ≤ rows_of g) × (rows_of g ≤ 29)

-- the rows of the ground of base b are those of document 01
pub rows_are : (b z : ℕ) → rows_of (ground_of b z) ≡ rows b
unfolding rows
rows_are b z = refl

-- a ground that was opened is what `IsOpened` says
pub opened_is : (b z : ℕ) (g : Ground) → opened b z ≡ given g → IsOpened b z g
opened_is b z g e =
    let t = past (not (named b z)) 2 (given (ground_of b z)) g e in
    let n = named_is b z (not-false _ t.0) in
    let i : g ≡ ground_of b z = cc in
    record { named = n; is = i; rising = rw i (le_of_lt (rising (omega arith))); rows = rw (i, rows_are b z) (rows_28_29 b n.base) }

-- a point of the ground's zone, between its edges
pub record Held (g : Ground) (p : Point) : Type 0 where
  pub zone : p.zone ≡ g.zone
  pub west : 125000 ≤ p.easting.0
  pub east : p.easting.0 ≤ 874999
  pub south : g.south.0 ≤ (in_units p.northing).0
  pub north : (in_units p.northing).0 < g.north.0

-- what the test of a point means
pub held : (g : Ground) (p : Point) → holds g p ≡ true → Held g p
unfolding holds on_ground
held g p h =
    let y = (in_units p.northing).0 in
    let t = (and-eq-true_iff (eqb p.zone g.zone) (on_ground g p)).0 h in
    let s = (and-eq-true_iff (leb 125000 p.easting.0 && leb p.easting.0 874999) (leb g.south.0 y && ltb y g.north.0)).0 t.1 in
    let e = (and-eq-true_iff (leb 125000 p.easting.0) (leb p.easting.0 874999)).0 s.0 in
    let n = (and-eq-true_iff (leb g.south.0 y) (ltb y g.north.0)).0 s.1 in
    record {
      zone = eqb-true _ _ t.0;
      west = leb-true _ _ e.0;
      east = leb-true _ _ e.1;
      south = leb-true _ _ n.0;
      north = ltb-true _ _ n.1;
    }

-- a point between the edges passes the test
pub holding : (g : Ground) (p : Point) → Held g p → holds g p ≡ true
unfolding holds on_ground
holding g p t =
    simp (
      eq-eqb _ _ t.zone,
      le-leb _ _ t.west,
      le-leb _ _ t.east,
      le-leb _ _ t.south,
      lt-ltb _ _ t.north,
    )

-- document 01's own words: of the zone, eastings from 125,000 to 874,999 m, northings from 500 yB(b) to 500 yB(b+4) - 1 m
pub held_in_metres : (g : Ground) (p : Point) → (holds g p ≡ true)
    ↔ ((p.zone ≡ g.zone) × (125000 ≤ p.easting.0) × (p.easting.0 ≤ 874999) × (500 * g.south.0 ≤ p.northing.0) × (p.northing.0 < 500 * g.north.0))
held_in_metres g p = (
  (λ h. let t = held g p h in omega arith),
  λ m. holding g p (record { zone = m.0; west = m.1; east = m.2; south = omega arith; north = omega arith }),
)
