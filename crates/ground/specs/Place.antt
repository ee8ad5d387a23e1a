-- Where a point lies in its file: the rectangle, the words at its corners, and what each corner weighs.
-- Document 01, "Ground of a file" and, for fx, fy and the weights, "A reading". Assumes nothing.
use Rattle.std.specs.Prelude.{ℕ, ◌+◌, ◌-◌, ◌*◌, ◌/◌, not}
use Rattle.ground.specs.Outcome.{Outcome, given, unless}
use Rattle.ground.specs.Measure.{units, in_units, past_unit}
use Rattle.ground.specs.Ground.{holds}
use Rattle.ground.specs.declared.measure.Metres.{Metres}
use Rattle.ground.specs.declared.measure.Units.{Units}
use Rattle.ground.specs.declared.point.Point.{Point}
use Rattle.ground.specs.declared.rectangle.Rectangle.{Rectangle}
use Rattle.ground.specs.declared.place.PerCorner.{PerCorner}
use Rattle.ground.specs.declared.place.Place.{Place}
use Rattle.ground.specs.declared.Ground.{Ground}

-- what each corner weighs
abbrev pub Weights : Type 0
Weights = PerCorner ℕ

-- the words at the corners
abbrev pub Words : Type 0
Words = PerCorner ℕ

-- the rectangle of row Iy and column Ix
abbrev pub rectangle : ℕ → ℕ → Rectangle
rectangle Iy Ix = record { iy = Iy; ix = Ix }

-- the rectangle these units east and north of the ground's corner; one is 15 units by 31
abbrev pub rectangle_at : Units → Units → Rectangle
rectangle_at east north = rectangle (north.0 / 31) (east.0 / 15)

-- rectangle n = 100 Iy + Ix
abbrev pub number : Rectangle → ℕ
number r = 100 * r.iy + r.ix

-- the weights: SW (500-fx)(500-fy), SE fx(500-fy), NW (500-fx)fy, NE fx fy
unfoldable pub weights_of : Metres → Metres → Weights
weights_of fx fy =
    record {
      sw = (500 - fx.0) * (500 - fy.0);
      se = fx.0 * (500 - fy.0);
      nw = (500 - fx.0) * fy.0;
      ne = fx.0 * fy.0;
    }

-- The place these units east and north of the ground's corner, and fx and fy metres past that: wx is what is left of the units east after Ix
-- rectangles of 15, wy of the units north after Iy of 31.
unfoldable pub place_at : Units → Units → Metres → Metres → Place
place_at east north fx fy =
    let r : Rectangle = rectangle_at east north in
    record {
      rectangle = r;
      wx = units (east.0 - 15 * r.ix);
      wy = units (north.0 - 31 * r.iy);
      fx = fx;
      fy = fy;
      weights = weights_of fx fy;
    }

-- With x = E / 500, y = N / 500 truncated, a point lies x - 250 units east and y - yB units north of the corner, and fx, fy metres past that.
unfoldable pub place_of : Ground → Point → Place
place_of g p =
    place_at
    (units ((in_units p.easting).0 - 250))
    (units ((in_units p.northing).0 - g.south.0))
    (past_unit p.easting)
    (past_unit p.northing)

-- word w = 16 wy + wx + 1
abbrev pub word : Place → ℕ
word s = 16 * s.wy.0 + s.wx.0 + 1

-- the corners are words w, w+1, w+16, w+17
abbrev pub words_of : Place → Words
words_of s = record { sw = word s; se = word s + 1; nw = word s + 16; ne = word s + 17 }

-- where a point of the zone and on the ground lies, else refusal 4
abbrev pub located : Ground → Point → Outcome Place
located g p = unless (not (holds g p)) 4 (given (place_of g p))

-- P holds at each of the four corners
pub record Each {A : Type 0} (P : A → Type 0) (a b c d : A) : Type 0 where
  pub sw : P a
  pub se : P b
  pub nw : P c
  pub ne : P d

-- P holds of the word and the weight of each corner
abbrev pub AtEach : (ℕ → ℕ → Type 0) → Words → Weights → Type 0
AtEach P w k = Each (λ (x : ℕ × ℕ). P x.0 x.1) (w.sw, k.sw) (w.se, k.se) (w.nw, k.nw) (w.ne, k.ne)
