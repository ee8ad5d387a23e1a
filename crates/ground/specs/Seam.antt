-- Points on the seams of rectangles. Records repeat their edges: column 15 of a rectangle is column 0 of the one to the east, row 31 is row 0 of the one
-- to the north. Document 02, request b), says which rectangles a point may be read from. Assumes nothing.
use Rattle.std.specs.Prelude.{◌≡◌, ◌⊎◌, Bool, true, false, ◌&&◌, List, [], ◌∷◌, ℕ, ◌+◌, ◌-◌, ◌*◌, ◌≤◌, ◌<◌, leb, eqb}
use Rattle.ground.specs.Measure.{units}
use Rattle.ground.specs.Place.{rectangle, number, weights_of}
use Rattle.ground.specs.declared.Ground.{Ground}
use Rattle.ground.specs.declared.measure.Units.{Units}
use Rattle.ground.specs.declared.rectangle.Rectangle.{Rectangle}
use Rattle.ground.specs.declared.point.Point.{Point}
use Rattle.ground.specs.declared.place.Place.{Place}

-- a point with wx = 0 and fx = 0 may be read from the rectangle to the west; no rectangle lies west of column 0
abbrev pub west_allowed : Place → Bool
west_allowed s = eqb s.wx.0 0 && eqb s.fx.0 0 && leb 1 s.rectangle.ix

-- a point with wy = 0 and fy = 0 may be read from the rectangle to the south; no rectangle lies south of row 0
abbrev pub south_allowed : Place → Bool
south_allowed s = eqb s.wy.0 0 && eqb s.fy.0 0 && leb 1 s.rectangle.iy

-- the same point in another rectangle, in this column and row of it
abbrev pub moved : Place → Rectangle → (column row : Units) → Place
moved s r column row = record { rectangle = r; wx = column; wy = row; fx = s.fx; fy = s.fy; weights = s.weights }

-- the point in column 15 of the rectangle to the west, where there is one
abbrev pub in_west : Place → Place
in_west s = moved s (rectangle s.rectangle.iy (s.rectangle.ix - 1)) (units 15) s.wy

-- the point in row 31 of the rectangle to the south, where there is one
abbrev pub in_south : Place → Place
in_south s = moved s (rectangle (s.rectangle.iy - 1) s.rectangle.ix) s.wx (units 31)

-- this place, where the test holds, and then the rest
abbrev pub when : Bool → Place → List Place → List Place
when true s rest = s ∷ rest
when false s rest = rest

-- where a point may be read beside its own rectangle, in the order of trial: to the west, to the south, in the corner of the south-west one
abbrev pub beside : Place → List Place
beside s =
    when (west_allowed s) (in_west s)
    (when (south_allowed s) (in_south s)
    (when (west_allowed s && south_allowed s) (in_south (in_west s))
    []))

-- where a point may be read: in its own rectangle, then beside it
unfoldable pub allowed : Place → List Place
allowed s = s ∷ beside s

-- The grid of the rectangle that s lies in holds the point p: s gives the point back, in columns 0 to 15 and rows 0 to 31 with the edges, past which
-- nothing lies.
pub record GridHolds (g : Ground) (p : Point) (s : Place) : Type 0 where
  pub easting : 125000 + 500 * (15 * s.rectangle.ix + s.wx.0) + s.fx.0 ≡ p.easting.0
  pub northing : 500 * (g.south.0 + 31 * s.rectangle.iy + s.wy.0) + s.fy.0 ≡ p.northing.0
  pub fx : s.fx.0 ≤ 499
  pub fy : s.fy.0 ≤ 499
  pub east : 500 * s.wx.0 + s.fx.0 ≤ 500 * 15
  pub north : 500 * s.wy.0 + s.fy.0 ≤ 500 * 31
  pub weights : s.weights ≡ weights_of s.fx s.fy

-- the place is one of these
abbrev pub Among : Place → List Place → Type 0
Among s [] = ⊥
Among s (t ∷ rest) = (s ≡ t) ⊎ Among s rest

-- the numbers of these places' rectangles fall, all of them below n
abbrev pub FallFrom : ℕ → List Place → Type 0
FallFrom n [] = Unit {0}
FallFrom n (s ∷ rest) = (number s.rectangle < n) × FallFrom (number s.rectangle) rest
