-- What functions of this crate and of those above ask of each other, on the way to the promises. A reader of the promises may pass over this file.
-- Assumes nothing.
use Rattle.std.specs.Prelude.{ℕ, ◌*◌, ◌≤◌, ◌<◌}
use Rattle.ground.specs.Boundary.{y_end}
use Rattle.ground.specs.declared.point.Point.{Point}
use Rattle.path.specs.Path.{far}
use Rattle.path.specs.declared.Path.{Path}

-- The bound of the numbers that a line runs between: 500 yB(84), the northing at which the last file ends. The millimetres of an end with its mast are
-- below it too, and 200 times it fits 32 bits.
abbrev pub line_end : ℕ
line_end = 500 * y_end

-- a point whose easting and northing are below `line_end`, as those of every point on a ground are
pub record Near (p : Point) : Type 0 where
  pub easting : p.easting.0 < line_end
  pub northing : p.northing.0 < line_end

-- step i of n, of which there are 1 to 200
pub record Steps (n i : ℕ) : Type 0 where
  pub some : 1 ≤ n
  pub most : n ≤ 200
  pub within : i ≤ n

-- the bounds of a path that was found: its ends are near, it has 1 to 200 steps, and they reach as far as Q
pub record SoundPath (w : Path) : Type 0 where
  pub first : Near w.first
  pub second : Near w.second
  pub some : 1 ≤ w.n
  pub most : w.n ≤ 200
  pub reach : w.q ≤ far w.n
