-- What the functions inside this crate ask of each other and tell each other, on the way to the promises. A reader of the promises may pass
-- over this file. Assumes nothing.
use Rattle.std.specs.Prelude.{◌≡◌, ◌⊎◌, cond, List, [], ◌∷◌, ℕ, ◌+◌, ◌-◌, ◌*◌, ◌/◌, ◌%◌, ◌≤◌, ◌<◌, eqb, length}
use Rattle.ground.specs.Place.{Weights, words_of, Each}
use Rattle.ground.specs.declared.place.Place.{Place}
use Rattle.index.specs.Bytes.{nth}
use Rattle.terrain.specs.Word.{code_of, elevation_of}
use Rattle.reading.specs.Corner.{Corner, Corners}
use Rattle.reading.specs.Vote.{Greatest}
use Rattle.reading.specs.declared.edge.Edge.{Edge}
use Rattle.reading.specs.declared.edge.Elevations.{Elevations}
use Rattle.reading.specs.declared.vote.Sum.{Sum}

-- P holds at each of the four corners
abbrev pub EachCorner : (Corner → Type 0) → Corners → Type 0
EachCorner P c = Each P c.sw c.se c.nw c.ne

-- two numbers of 16 bits are held as one, 65536 times the first plus the second: this is the first
abbrev pub first : ℕ → ℕ
first n = n / 65536

-- and this the second
abbrev pub second : ℕ → ℕ
second n = n % 65536

-- words are numbered from 1, and that of a corner that weighs in is a word of the record
abbrev pub WithinAt : List ℕ → ℕ → ℕ → Type 0
WithinAt bytes w weight = (1 ≤ w) × (0 < weight → 2 * w ≤ length bytes)

-- word w of the record where its corner weighs in, else 0
abbrev pub word_where : List ℕ → ℕ → ℕ → ℕ
word_where bytes w weight = cond (eqb weight 0) 0 (nth bytes w)

-- the edge has these two words of the record
pub record EdgeOf (bytes : List ℕ) (v w : ℕ) (e : Edge) : Type 0 where
  pub first : first e.0 ≡ nth bytes v
  pub second : second e.0 ≡ nth bytes w

-- a point on a grid line: fx or fy is 0, both are below 500, and the corners that weigh in are words of the record
pub record OnLine (bytes : List ℕ) (s : Place) : Type 0 where
  pub x : s.fx.0 ≤ 499
  pub y : s.fy.0 ≤ 499
  pub line : (s.fx.0 ≡ 0) ⊎ (s.fy.0 ≡ 0)
  pub word : (words_of s).sw ≤ 512
  pub sw : 2 * (words_of s).sw ≤ length bytes
  pub se : 0 < s.fx.0 → 2 * (words_of s).se ≤ length bytes
  pub nw : 0 < s.fy.0 → 2 * (words_of s).nw ≤ length bytes

-- the edge has the word of the south-west corner, and that of the next one on the line, to the north or to the east, where it weighs in, else 0
pub record EdgeUnder (bytes : List ℕ) (s : Place) (e : Edge) : Type 0 where
  pub first : first e.0 ≡ nth bytes (words_of s).sw
  pub next :
      let on : ℕ → Type 0 = λ w. second e.0 ≡ word_where bytes w (s.fx.0 + s.fy.0) in
      ((s.fx.0 ≡ 0) × on (words_of s).nw) ⊎ ((s.fy.0 ≡ 0) × on (words_of s).se)

-- the elevations at the two ends of an edge
pub record ElevationsOf (e : Edge) (h : Elevations) : Type 0 where
  pub first : first h.0 ≡ elevation_of (first e.0)
  pub second : second h.0 ≡ elevation_of (second e.0)

-- both elevations are such as a word can say, at most 8191
pub record Heights (h : Elevations) : Type 0 where
  pub first : first h.0 ≤ 8191
  pub second : second h.0 ≤ 8191

-- the height f metres along a unit from one height to another, in a 500th of what the two are in
abbrev pub between : (f from to : ℕ) → ℕ
between f from to = (500 - f) * from + f * to

-- no height between others is more: 250,000 x 8191
abbrev pub most_between : ℕ
most_between = 2047750000

-- the corner of this weight whose word this is
abbrev pub said : (word weight : ℕ) → Corner
said word weight = record { weight = weight; code = code_of word; elevation = elevation_of word }

-- a corner that does not weigh in
abbrev pub weightless : Corner
weightless = record { weight = 0; code = 0; elevation = 0 }

-- the corners around a point between two edges
abbrev pub corners_around : (south north : Edge) → Weights → Corners
corners_around s n k =
    record {
      sw = said (first s.0) k.sw;
      se = said (second s.0) k.se;
      nw = said (first n.0) k.nw;
      ne = said (second n.0) k.ne;
    }

-- the corners around a point f metres to the east along an edge; those of a point f metres to the north are read alike (`Laws/Edge`)
abbrev pub corners_along : Edge → ℕ → Corners
corners_along e f =
    record { sw = said (first e.0) (500 * (500 - f)); se = said (second e.0) (500 * f); nw = weightless; ne = weightless }

-- what a sum weighs for a code: all of it if the code is its own
abbrev pub weight_in : ℕ → Sum → ℕ
weight_in code s = cond (eqb s.code code) s.weight 0

-- what sums weigh for a code together
abbrev pub sum_in : List Sum → ℕ → ℕ
sum_in [] code = 0
sum_in (s ∷ l) code = weight_in code s + sum_in l code

-- of the codes 0 to 7 this is the one with the greatest weight in these sums, ties to the smaller
abbrev pub Decides : List Sum → ℕ → Type 0
Decides l code = Greatest (sum_in l) 7 code

-- two sums of one code as one
abbrev pub joined : Sum → Sum → Sum
joined s t = record { code = s.code; weight = s.weight + t.weight }

-- a sum's rank: code and weight as one number, greater for a greater weight and, where weights tie, for a smaller code
abbrev pub rank_of : Sum → ℕ
rank_of s = 8 * s.weight + (7 - s.code)

-- the code that a rank tells
abbrev pub told_by : ℕ → ℕ
told_by m = 7 - m % 8

-- what sums weigh together
abbrev pub weight_of : List Sum → ℕ
weight_of [] = 0
weight_of (s ∷ l) = s.weight + weight_of l

-- each sum has one of the eight codes
abbrev pub Coded : List Sum → Type 0
Coded [] = Unit {0}
Coded (s ∷ l) = (s.code ≤ 7) × Coded l

-- sums of codes that weigh no more than all corners do
pub record Fit (l : List Sum) : Type 0 where
  pub coded : Coded l
  pub light : weight_of l ≤ 250000

-- m is the rank of some sum, whose code is one of the eight, and which is no heavier than what these sums weigh for that code
pub record Reached (l : List Sum) (m : ℕ) : Type 0 where
  pub best : Sum
  pub within : best.code ≤ 7
  pub is : m ≡ rank_of best
  pub most : best.weight ≤ sum_in l best.code

-- what sums weigh for a code, as one sum
abbrev pub total_of : List Sum → ℕ → Sum
total_of l code = record { code = code; weight = sum_in l code }

-- m is the highest rank of what sums weigh for a code: it is reached, and no code for which they weigh something has a higher one
pub record Top (l : List Sum) (m : ℕ) : Type 0 where
  pub reached : Reached l m
  pub highest : (code : ℕ) → 0 < sum_in l code → rank_of (total_of l code) ≤ m

-- the sums of two codes f metres along a unit from one to the other, which weigh 500 together
abbrev pub from_to : (f from to : ℕ) → List Sum
from_to f from to = record { code = from; weight = 500 - f } ∷ record { code = to; weight = f } ∷ []
