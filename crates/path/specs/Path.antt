-- The path of a link: its ends, how many samples it has, and where each lies. Document 01, "A path" and "The numbers we say no with".
-- Assumes nothing.
use Rattle.std.specs.Prelude.{ℕ, ◌+◌, ◌-◌, ◌*◌, ◌/◌, ◌≤◌, Bool, not, ◌||◌, leb, ltb, eqb}
use Rattle.ground.specs.Outcome.{Outcome, given, unless}
use Rattle.ground.specs.Measure.{metres}
use Rattle.ground.specs.Ground.{holds}
use Rattle.ground.specs.declared.Ground.{Ground}
use Rattle.ground.specs.declared.point.Point.{Point}
use Rattle.path.specs.First.{first_from}
use Rattle.path.specs.declared.Path.{Path}
use Rattle.path.specs.declared.Asked.{Asked}

-- how far two numbers are apart
abbrev pub apart : ℕ → ℕ → ℕ
apart a b = a - b + (b - a)

-- Q = dE² + dN²
unfoldable pub Q : Point → Point → ℕ
Q first second =
    let dE : ℕ = apart first.easting.0 second.easting.0 in
    let dN : ℕ = apart first.northing.0 second.northing.0 in
    dE * dE + dN * dN

-- the square of n steps of 500 m: (500 n)²
abbrev pub far : ℕ → ℕ
far n = 500 * n * (500 * n)

-- N as it is computed: the first number from 1 on with (500 N)² >= Q; it is among the first Q of them, or 1
unfoldable pub N : ℕ → ℕ
N q = first_from (λ m. leb q (far m)) q 1

-- N in document 01's words: the least whole number of at least 1 with (500 N)² >= Q
pub record IsN (q n : ℕ) : Type 0 where
  pub some : 1 ≤ n
  pub reach : q ≤ far n
  pub least : (m : ℕ) → 1 ≤ m → q ≤ far m → n ≤ m

-- the straight line from one number to another, N times as high, at step i of N: (N-i) from + i to
abbrev pub line : ℕ → ℕ → ℕ → ℕ → ℕ
line n from to i = (n - i) * from + i * to

-- the number at step i of N on the straight line from one number to another: ((N-i) from + i to) / N, truncated
unfoldable pub along : ℕ → ℕ → ℕ → ℕ → ℕ
along n from to i = line n from to i / n

-- what a call asks: the ends of a path, two masts or mast limits, and a sample
abbrev pub asking : Point → Point → ℕ → ℕ → ℕ → Asked
asking first second a b i = record { first = first; second = second; a = a; b = b; i = i }

-- what a call asks that has no mast and no sample: 8 has no place in it
abbrev pub ask_path : Point → Point → Asked
ask_path first second = asking first second 0 0 0

-- what a call asks that has two masts, or two mast limits
abbrev pub ask_masts : Point → Point → ℕ → ℕ → Asked
ask_masts first second a b = asking first second a b 0

-- what a call asks that has a sample
abbrev pub ask_sample : Point → Point → ℕ → Asked
ask_sample first second i = asking first second 0 0 i

-- the path between two ends
abbrev pub path_of : Point → Point → Path
path_of first second = record { first = first; second = second; q = Q first second; n = N (Q first second) }

-- sample i lies at ((N-i) E0 + i E1) / N truncated, northing likewise
unfoldable pub sample : Path → ℕ → Point
sample w i =
    record {
      zone = w.first.zone;
      easting = metres (along w.n w.first.easting.0 w.second.easting.0 i);
      northing = metres (along w.n w.first.northing.0 w.second.northing.0 i);
    }

-- the greatest Q of a path, that of 100 km
abbrev pub farthest : ℕ
farthest = 10000000000

-- a path of Q = 0, or Q > 10,000,000,000; refusal 7 is given for it
abbrev pub too_short_or_long : ℕ → Bool
too_short_or_long q = eqb q 0 || ltb farthest q

-- the tallest mast and the highest mast limit, in metres
abbrev pub tallest : ℕ
tallest = 100

-- a mast or mast limit above 100, or a sample above N; refusal 8 is given for it
abbrev pub over_asked : ℕ → ℕ → ℕ → ℕ → Bool
over_asked n a b i = ltb tallest a || ltb tallest b || ltb n i

-- the path between two points: 4 for the first end, 4 for the second, 7, 8, in that order
unfoldable pub path_on : Ground → Asked → Outcome Path
path_on g asked =
    let w : Path = path_of asked.first asked.second in
    unless (not (holds g w.first)) 4
    (unless (not (holds g w.second)) 4
    (unless (too_short_or_long w.q) 7
    (unless (over_asked w.n asked.a asked.b asked.i) 8
    (given w))))
