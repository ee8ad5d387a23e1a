-- The four corners around a point. Document 01, "A reading". Assumes nothing.
use Rattle.std.specs.Prelude.{Bool, cond, ◌||◌, List, ℕ, ◌+◌, ◌*◌, eqb}
use Rattle.ground.specs.Place.{Words, Weights, words_of}
use Rattle.index.specs.Bytes.{nth, record_bytes}
use Rattle.terrain.specs.Word.{code_of, elevation_of}
use Rattle.terrain.specs.declared.record.Taken.{Taken}

-- a corner: what it weighs, and the surface code and the elevation that its word says
pub record Corner : Type 0 where
  pub weight : ℕ
  pub code : ℕ
  pub elevation : ℕ

-- the four corners around a point
pub record Corners : Type 0 where
  pub sw : Corner
  pub se : Corner
  pub nw : Corner
  pub ne : Corner

-- The corner at word w of a record. It weighs in if its weight is above 0; else its word is not looked at, and stands for code 0 and elevation 0.
unfoldable pub corner : List ℕ → ℕ → ℕ → Corner
corner bytes w weight =
    cond (eqb weight 0)
    (record { weight = 0; code = 0; elevation = 0 })
    (record { weight = weight; code = code_of (nth bytes w); elevation = elevation_of (nth bytes w) })

-- the four corners, at these words of a record
unfoldable pub corners_at : List ℕ → Words → Weights → Corners
corners_at bytes w weights =
    record {
      sw = corner bytes w.sw weights.sw;
      se = corner bytes w.se weights.se;
      nw = corner bytes w.nw weights.nw;
      ne = corner bytes w.ne weights.ne;
    }

-- the corners around the point, at words w, w + 1, w + 16, w + 17 of the record taken
abbrev pub corners_of : List ℕ → Taken → Corners
corners_of file t = corners_at (record_bytes file t.entry) (words_of t.place) t.place.weights

-- 8191 means no height. A corner that does not weigh in has elevation 0 here, so it lacks none
abbrev pub lacks_height : Corner → Bool
lacks_height c = eqb c.elevation 8191

-- a corner that weighs in has no height; refusal 6 is given where one has none
unfoldable pub any_lacks_height : Corners → Bool
any_lacks_height c = (lacks_height c.sw || lacks_height c.se) || (lacks_height c.nw || lacks_height c.ne)

-- the exact height: the sum of weight x elevation, in units of 1/250,000 m
unfoldable pub exact_height : Corners → ℕ
exact_height c =
    c.sw.weight * c.sw.elevation + c.se.weight * c.se.elevation + c.nw.weight * c.nw.elevation + c.ne.weight * c.ne.elevation

-- the greatest exact height: 8190 m at every corner
abbrev pub most_height : ℕ
most_height = 2047500000
