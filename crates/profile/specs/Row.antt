-- The rows for the prediction engine. Document 01, "A reading". Assumes nothing.
use Rattle.std.specs.Prelude.{ℕ, ◌≡◌, List, pos, Float}
use Rattle.std.specs.Float.{binary64}
use Rattle.std.specs.Float.Ieee.{div, of_int}
use Rattle.ground.specs.Outcome.{Outcome, given, ◌and_then◌, refusal_number, refusal_place, filled_by}
use Rattle.ground.specs.declared.point.Point.{Point}
use Rattle.reading.specs.Engine.{metres_of}
use Rattle.path.specs.Path.{ask_sample}
use Rattle.profile.specs.Profile.{Link, sample_of, linked}
use Rattle.profile.specs.declared.row.Row.{Row}
use Rattle.profile.specs.declared.row.RowAnswer.{RowAnswer}

-- a whole number as a double
abbrev double : ℕ → Float
double m = of_int binary64 (pos m)

-- the share of the way: i divided once by N
abbrev pub share : ℕ → ℕ → Float
share i n = div binary64 (double i) (double n)

-- two doubles, the height in metres and the share of the way, for sample i of n at this exact height
pub record IsRow (height i n : ℕ) (r : Row) : Type 0 where
  pub metres : r.height ≡ metres_of height
  pub way : r.share ≡ share i n

-- the row of sample i of a link
abbrev pub row_of : Link → ℕ → Row
row_of l i = record { height = metres_of (sample_of l.profile i).height; share = share i l.path.n }

-- the row of sample i of a file's path: a refusal of `linked`, 8 among them for a sample above N, or the row
unfoldable pub row : List ℕ → ℕ → ℕ → Point → Point → ℕ → Outcome Row
row file base zone first second i = linked file base zone (ask_sample first second i) and_then λ l. given (row_of l i)

-- the answer of `janlishuk_engine_row` as the caller gets it
abbrev pub row_answer : Outcome Row → RowAnswer
row_answer o =
    record {
      refusal = refusal_number o;
      place = refusal_place o;
      row = filled_by (record { height = double 0; share = double 0 }) o;
    }
