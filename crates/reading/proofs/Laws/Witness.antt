-- Some point is read, so no law of a reading speaks of nothing: the south-west corner of rectangle 50, in a file that passes the check and covers it.
-- Assumes nothing.
use mathlib.Core.Path.{◌≡◌, refl}
use native.Mathlib.Omega.{arith}
use Rattle.ground.specs.Outcome.{given}
use Rattle.ground.specs.Measure.{metres}
use Rattle.ground.specs.Boundary.{y_b, rows, named}
use Rattle.ground.specs.Ground.{on_ground, holds}
use Rattle.ground.specs.Place.{weights_of, place_at, place_of}
use Rattle.ground.specs.Seam.{allowed}
use Rattle.ground.specs.declared.point.Point.{Point}
use Rattle.index.specs.Bytes.{nth, record_bytes}
use Rattle.terrain.specs.Record.{entry, first_covered, taken}
use Rattle.terrain.proofs.Laws.Checked.{check_passes}
use Rattle.terrain.proofs.Laws.Witness.{file, some_passes}
use Rattle.reading.specs.Reading.{reading}
use Rattle.reading.specs.declared.point.Reading.{Reading}
use Rattle.reading.proofs.Laws.Reading.{read_exactly}

-- the south-west corner of rectangle 50
abbrev pub tower : Point
tower = record { zone = 17; easting = metres 500000; northing = metres 4433000 }

-- the point `tower` is read
pub some_read : (r : Reading) × (reading file 40 17 tower ≡ given r)
unfolding y_b rows named on_ground holds weights_of place_at place_of allowed nth record_bytes entry first_covered taken file
some_read =
    (read_exactly file 40 17 _ (check_passes file 40 17 refl some_passes) tower refl).1
    (record {
      source = _;
      covered = refl;
      heights = record { sw = λ l e. omega arith; se = λ l e. omega arith; nw = λ l e. omega arith; ne = λ l e. omega arith };
    })
