-- The ground of a file that is opened with a base latitude and a zone, and the points that it holds. Document 01, "Ground of a file".
-- Assumes nothing.
use Rattle.std.specs.Prelude.{ℕ, ◌+◌, ◌-◌, ◌/◌, Bool, not, ◌&&◌, leb, eqb}
use Rattle.ground.specs.Outcome.{Outcome, given, unless}
use Rattle.ground.specs.Measure.{in_units}
use Rattle.ground.specs.Boundary.{y_b, named, between}
use Rattle.ground.specs.declared.point.Point.{Point}
use Rattle.ground.specs.declared.Ground.{Ground}

-- the ground of base b and zone z: from yB(b) to before yB(b+4)
abbrev pub ground_of : ℕ → ℕ → Ground
ground_of b z = record { zone = z; south = y_b b; north = y_b (b + 4) }

-- rows of rectangles on a ground; on that of base b they are `rows b`
abbrev pub rows_of : Ground → ℕ
rows_of g = (g.north.0 - g.south.0) / 31

-- a file is opened with a base and a zone that are named, else refusal 2
abbrev pub opened : ℕ → ℕ → Outcome Ground
opened b z = unless (not (named b z)) 2 (given (ground_of b z))

-- The ground holds eastings from 125,000 to 874,999 m, and northings whose y is from yB(b) to before yB(b+4). In metres that is document 01's
-- "from 500 yB(b) to 500 yB(b+4) - 1": `held_in_metres` of proofs/Laws/Ground.antt shows it.
unfoldable pub on_ground : Ground → Point → Bool
on_ground g p =
    leb 125000 p.easting.0 && leb p.easting.0 874999 && between g.south g.north (in_units p.northing)

-- the point is of the file's zone and on its ground; refusal 4 is given where it is not
unfoldable pub holds : Ground → Point → Bool
holds g p = eqb p.zone g.zone && on_ground g p
