-- The southern boundaries of the files, and the bases and zones that a file is opened with. Document 01, "Ground of a file".
-- Assumes nothing.
use Rattle.std.specs.Prelude.{ℕ, zero, suc, ◌+◌, ◌-◌, ◌*◌, ◌/◌, ◌%◌, Bool, cond, ◌&&◌, List, [], ◌∷◌, leb, ltb, eqb}
use Rattle.ground.specs.Outcome.{Outcome, given, refused, refusal_number, refusal_place, filled_by}
use Rattle.ground.specs.Measure.{units, in_units}
use Rattle.ground.specs.declared.measure.Metres.{Metres}
use Rattle.ground.specs.declared.measure.Units.{Units}
use Rattle.ground.specs.declared.table.BaseAnswer.{BaseAnswer}
use Rattle.ground.specs.declared.table.Span.{Span}

-- formula 1: the southern boundary of base latitude b, division truncated
unfoldable pub y_b : ℕ → Units
y_b b = units (31 * (7 * b + (1000 + (246 + b) * b) / 2000))

-- the last boundary, that of b = 84, in units: no file has a y from here on
abbrev pub y_end : ℕ
y_end = 18662

-- Table 1: the southern boundaries for b = 0, 4, .. 84, in units
unfoldable pub table1 : List ℕ
table1 =
    0 ∷ 899 ∷ 1767 ∷ 2666 ∷ 3534 ∷ 4433 ∷ 5301 ∷ 6200 ∷ 7068 ∷ 7967 ∷ 8866 ∷ 9734 ∷ 10633 ∷ 11532 ∷ 12400 ∷ 13299 ∷ 14198 ∷ 15097 ∷ 15965 ∷ 16864 ∷ 17763 ∷ y_end ∷ []

-- the file of base b lies between yB(b) and yB(b+4)
abbrev pub span : ℕ → Span
span b = record { south = y_b b; north = y_b (b + 4) }

-- rows of rectangles between the boundary of b and that of b + 4
unfoldable pub rows : ℕ → ℕ
rows b = ((y_b (b + 4)).0 - (y_b b).0) / 31

-- a base latitude is 0, 4, .. 80
abbrev pub is_base : ℕ → Bool
is_base b = leb b 80 && eqb (b % 4) 0

-- a zone is 1 to 60
abbrev pub is_zone : ℕ → Bool
is_zone z = leb 1 z && leb z 60

-- base and zone are among those named; refusal 2 is given where they are not
unfoldable pub named : ℕ → ℕ → Bool
named b z = is_base b && is_zone z

-- y lies between two boundaries: south <= y < north
abbrev pub between : Units → Units → Units → Bool
between south north y = leb south.0 y.0 && ltb y.0 north.0

-- the file of base b spans y: yB(b) <= y < yB(b+4)
unfoldable pub spans : ℕ → Units → Bool
spans b y = between (y_b b) (y_b (b + 4)) y

-- the first of the k bases b, b + 4, .. that spans y, or refusal 4
unfoldable pub first_spanning : ℕ → ℕ → Units → Outcome ℕ
first_spanning zero b y = refused 4 0
first_spanning (suc k) b y = cond (spans b y) (given b) (first_spanning k (b + 4) y)

-- the base of y, among the 21 bases from 0 to 80
unfoldable pub base_at : Units → Outcome ℕ
base_at y = first_spanning 21 0 y

-- the base of a northing in metres
abbrev pub base_of : Metres → Outcome ℕ
base_of northing = base_at (in_units northing)

-- the answer of `janlishuk_base` as the caller gets it
abbrev pub base_answer : Outcome ℕ → BaseAnswer
base_answer o = record { refusal = refusal_number o; place = refusal_place o; base = filled_by 0 o }
