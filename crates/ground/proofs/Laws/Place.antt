-- The place of a point that its ground holds gives the point back; and the weights balance at the point and add up to 250,000. From the laws over the
-- sizes and of the ground. Assumes nothing.
use mathlib.Core.Path.{◌≡◌, refl}
use mathlib.Core.Bool.{true}
use Prim.Native.Nat.{ℕ, ◌+◌, ◌*◌, ◌≤◌}
use native.Mathlib.Nat.{le_of_suc-le-suc, mul-le-mul, lt_of_le_of_lt}
use native.Mathlib.Omega.{arith}
use lib.Dec.{lit<}
use mir.Syntax.{w32}
use mir.Val.{Fits}
use Rattle.ground.specs.Ground.{holds}
use Rattle.ground.specs.Place.{Weights, weights_of, place_at, place_of, word, words_of, Each}
use Rattle.ground.specs.Seam.{GridHolds}
use Rattle.ground.specs.declared.measure.Metres.{Metres}
use Rattle.ground.specs.declared.point.Point.{Point}
use Rattle.ground.specs.declared.Ground.{Ground}
use Rattle.ground.specs.declared.place.Place.{Place}
use Rattle.ground.proofs.Laws.Size.{axis, square}
use Rattle.ground.proofs.Laws.Ground.{held}

-- the place s is that of the point p in its own rectangle, whose grid holds it: p lies neither on the eastern nor on the northern edge
pub record Lies (g : Ground) (p : Point) (s : Place) : Type 0 where
  pub grid : GridHolds g p s
  pub wx : s.wx.0 ≤ 14
  pub wy : s.wy.0 ≤ 30

-- the place of a point that the ground holds gives it back
pub lies : (g : Ground) (p : Point) → holds g p ≡ true → Lies g p (place_of g p)
unfolding place_of place_at
lies g p h =
    let t = held g p h in
    let x = axis 500 15 250 p.easting.0 (lit< tt) (lit< tt) (omega arith) in
    let y = axis 500 31 g.south.0 p.northing.0 (lit< tt) (lit< tt) t.south in
    record {
      grid = record {
        easting = omega arith;
        northing = y.back;
        fx = le_of_suc-le-suc x.metres;
        fy = le_of_suc-le-suc y.metres;
        east = omega (arith, x.units, x.metres);
        north = omega (arith, y.units, y.metres);
        weights = refl;
      };
      wx = le_of_suc-le-suc x.units;
      wy = le_of_suc-le-suc y.units;
    }

-- the weights balance at the point, fx metres east and fy metres north of the south-west corner, and add up to 250,000
pub record Weighs (fx fy : Metres) (w : Weights) : Type 0 where
  pub east : w.se + w.ne ≡ 500 * fx.0
  pub north : w.nw + w.ne ≡ 500 * fy.0
  pub all : w.sw + w.se + (w.nw + w.ne) ≡ 250000

-- the weights of the definition are what `Weighs` says
pub weighs : (fx fy : Metres) → fx.0 ≤ 500 → fy.0 ≤ 500 → Weighs fx fy (weights_of fx fy)
unfolding weights_of
weighs fx fy hx hy =
    let q = square 500 fx.0 fy.0 hx hy in
    record { east = q.east; north = q.north; all = q.all }

-- what follows from P at a corner follows at each of the four
pub each : {A : Type 0} {P Q : A → Type 0} {a b c d : A} → ((x : A) → P x → Q x) → Each P a b c d → Each Q a b c d
each f e = record { sw = f _ e.sw; se = f _ e.se; nw = f _ e.nw; ne = f _ e.ne }

-- a weight fits a u32
pub weight_fits : (a b : ℕ) → a ≤ 500 → b ≤ 500 → Fits w32 (a * b)
weight_fits a b ha hb = record { fits = lt_of_le_of_lt (mul-le-mul ha hb) (lit< tt) }

-- each weight is a product of a part east and a part north; with `weighs`, this leaves one set of weights
pub cross : (fx fy : Metres) → (weights_of fx fy).sw * (weights_of fx fy).ne ≡ (weights_of fx fy).se * (weights_of fx fy).nw
unfolding weights_of
cross fx fy = omega arith

-- one unit east is the next word: neighbouring squares share their corners
pub word_east : (s t : Place) → t.wy.0 ≡ s.wy.0 → t.wx.0 ≡ s.wx.0 + 1 → (word t ≡ (words_of s).se) × ((words_of t).nw ≡ (words_of s).ne)
word_east s t y x = (omega arith, omega arith)

-- one unit north is 16 words on: neighbouring squares share their corners
pub word_north : (s t : Place) → t.wy.0 ≡ s.wy.0 + 1 → t.wx.0 ≡ s.wx.0 → (word t ≡ (words_of s).nw) × ((words_of t).se ≡ (words_of s).ne)
word_north s t y x = (omega arith, omega arith)
