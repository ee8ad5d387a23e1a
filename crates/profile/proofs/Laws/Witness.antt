-- Some path is read, so no law of a path that is read speaks of nothing. It goes 1 km due east from the south-west corner of rectangle 50, in a file that
-- passes the check and has that rectangle's record. Assumes nothing.
use mathlib.Core.Path.{◌≡◌, refl, ap}
use Rattle.ground.specs.Outcome.{given, ◌and_then◌}
use Rattle.ground.specs.Measure.{metres}
use Rattle.ground.specs.Boundary.{y_b, rows, named}
use Rattle.ground.specs.Ground.{on_ground, holds}
use Rattle.ground.specs.Place.{weights_of, place_at, place_of}
use Rattle.ground.specs.Seam.{allowed}
use Rattle.ground.specs.declared.point.Point.{Point}
use Rattle.index.specs.Bytes.{nth, record_bytes}
use Rattle.terrain.specs.Record.{entry, first_covered, taken, record_in}
use Rattle.reading.specs.Corner.{corner, corners_at, any_lacks_height}
use Rattle.reading.specs.Reading.{read_corners, read_taken, point_in}
use Rattle.terrain.proofs.Laws.Checked.{check_passes}
use Rattle.terrain.proofs.Laws.Witness.{file, some_passes}
use Rattle.path.specs.First.{first_from}
use Rattle.path.specs.Path.{Q, N, along, sample, path_on, ask_path}
use Rattle.profile.specs.Profile.{Link, up_to, link_in, linked}

-- its western end
abbrev pub west : Point
west = record { zone = 17; easting = metres 500000; northing = metres 4433000 }

-- its eastern end
abbrev pub east : Point
east = record { zone = 17; easting = metres 501000; northing = metres 4433000 }

-- the path is read
pub some_linked : (l : Link) × (linked file 40 17 (ask_path west east) ≡ given l)
unfolding y_b rows named on_ground holds weights_of place_at place_of allowed nth record_bytes entry first_covered taken record_in corner corners_at any_lacks_height
    read_corners read_taken point_in Q first_from N along sample path_on up_to link_in linked file
some_linked =
    (_, ap (λ o. o and_then λ t. path_on t.ground (ask_path west east) and_then link_in file t) (check_passes file 40 17 refl some_passes))
