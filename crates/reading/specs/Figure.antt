-- Document 01, "Checked figures": P7 and P8. That each holds is shown in proofs/Figures.antt. Assumes nothing.
use Rattle.std.specs.Prelude.{false, List, [], ◌∷◌, ◌++◌, ℕ, ◌+◌, ◌*◌, ◌/◌, ◌%◌, replicate, pos, negsuc, Float}
use Rattle.std.specs.Float.{fin}
use Rattle.ground.specs.Outcome.{Outcome, given, ◌and_then◌}
use Rattle.ground.specs.Measure.{metres}
use Rattle.ground.specs.Ground.{ground_of}
use Rattle.ground.specs.Place.{words_of, located}
use Rattle.ground.specs.Figure.{Figure}
use Rattle.reading.specs.Corner.{corners_at}
use Rattle.reading.specs.Reading.{read_corners}
use Rattle.reading.specs.Engine.{metres_of}

-- the two bytes of a word of bare ground (code 2)
abbrev bare_word : ℕ → List ℕ
bare_word elevation = (8192 * 2 + elevation) / 256 ∷ (8192 * 2 + elevation) % 256 ∷ []

-- the start of a record with these elevations at its first four corners, SW, SE, NW, NE: words 1, 2, 17 and 18
abbrev corners : ℕ → ℕ → ℕ → ℕ → List ℕ
corners sw se nw ne = bare_word sw ++ bare_word se ++ replicate 28 0 ++ bare_word nw ++ bare_word ne

-- base 40, zone 17, fx metres east and fy metres north of the south-west corner of rectangle 50, read from these bytes: the height in 1/250,000 m,
-- and in metres
abbrev read_in : List ℕ → ℕ → ℕ → Outcome (ℕ × Float)
read_in bytes fx fy =
    located (ground_of 40 17) (record { zone = 17; easting = metres (500000 + fx); northing = metres (4433000 + fy) })
    and_then (λ s. read_corners (corners_at bytes (words_of s) s.weights))
    and_then λ r. given (r.height, metres_of r.height)

-- corners SW 100, SE 110, NW 120, NE 150 at fx = fy = 250: 30,000,000, which is 120.0 m, as a double 15 x 2^3
abbrev pub P7 : Figure
P7 =
    record {
      Value = Outcome (ℕ × Float);
      computed = read_in (corners 100 110 120 150) 250 250;
      said = given (30000000, fin false 15 (pos 3));
    }

-- same, fx 125, fy 0: 25,625,000, which is 102.5 m, as a double 205 x 2^-1; the north corners may be 8191
abbrev pub P8 : Figure
P8 =
    let at : Outcome (ℕ × Float) = given (25625000, fin false 205 (negsuc 0)) in
    record {
      Value = List (Outcome (ℕ × Float));
      computed = read_in (corners 100 110 120 150) 125 0 ∷ read_in (corners 100 110 8191 8191) 125 0 ∷ [];
      said = at ∷ at ∷ [];
    }
