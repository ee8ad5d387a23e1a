-- Document 01, "The numbers we say no with", and document 02, whose requests add the numbers from 10 on: the numbers of each call in its order of checks,
-- each with its condition in the documents' words, and what it means that a refusal is that of the first condition to hold. That the promises keep this
-- order is shown in proofs/Calls.antt. Assumes nothing.
use Rattle.std.specs.Prelude.{◌≡◌, ◌⊎◌, true, List, [], ◌∷◌, ◌++◌, ℕ, zero, suc, ◌+◌, ◌*◌, ◌/◌, ◌≤◌, ◌<◌}
use Rattle.ground.specs.Outcome.{given}
use Rattle.ground.specs.Boundary.{y_b, y_end, rows}
use Rattle.ground.specs.Ground.{ground_of}
use Rattle.ground.specs.Place.{place_of}
use Rattle.ground.specs.declared.point.Point.{Point}
use Rattle.ground.specs.declared.place.Place.{Place}
use Rattle.index.specs.Bytes.{Whole}
use Rattle.index.specs.Index.{HighestIn, Passes}
use Rattle.terrain.specs.Record.{Uncovered}
use Rattle.reading.specs.Demand.{SomeLacks}
use Rattle.spot.specs.Spot.{NamesNoRecord}
use Rattle.survey.specs.Survey.{Lists, Unfit}
use Rattle.path.specs.Path.{Q, N, path_of, sample, farthest}
use Rattle.link.specs.Clear.{verdict}

-- a line of the order: a number, the place that it is met at, and the condition that it is given for
pub record Line : Type 1 where
  pub number : ℕ
  pub place : ℕ
  pub condition : Type 0

-- The first line whose condition holds gives the refusal and its place; where none holds both are 0.
abbrev pub FirstOf : List Line → ℕ → ℕ → Type 0
FirstOf [] refusal place = (refusal ≡ 0) × (place ≡ 0)
FirstOf (l ∷ ls) refusal place =
    (l.condition × ((refusal ≡ l.number) × (place ≡ l.place))) ⊎ ((l.condition → ⊥) × FirstOf ls refusal place)

-- some line's condition holds
abbrev pub SomeOf : List Line → Type 0
SomeOf [] = ⊥
SomeOf (l ∷ ls) = l.condition ⊎ SomeOf ls

-- a number that is met at no sample: its place is 0
abbrev pub no : ℕ → Type 0 → Line
no number condition = record { number = number; place = 0; condition = condition }

-- a base latitude b (0, 4, .. 80) and a zone (1 to 60)
pub record IsNamed (b z : ℕ) : Type 0 where
  pub fours : b ≡ 4 * (b / 4)
  pub most : b ≤ 80
  pub first : 1 ≤ z
  pub last : z ≤ 60

-- The point is of the file's zone; and on its ground, which holds eastings from 125,000 to 874,999 m and northings from 500 yB(b) to 500 yB(b+4) - 1.
pub record OnGround (b z : ℕ) (p : Point) : Type 0 where
  pub zone : p.zone ≡ z
  pub west : 125000 ≤ p.easting.0
  pub east : p.easting.0 ≤ 874999
  pub south : 500 * (y_b b).0 ≤ p.northing.0
  pub north : p.northing.0 < 500 * (y_b (b + 4)).0

-- where a point lies in the file of a base and a zone
abbrev pub placed : ℕ → ℕ → Point → Place
placed b z p = place_of (ground_of b z) p

-- 1, 2, 3 of a file
abbrev pub of_file : List ℕ → ℕ → ℕ → List Line
of_file file b z = no 1 (Whole file → ⊥) ∷ no 2 (IsNamed b z → ⊥) ∷ no 3 (Passes file (rows b) → ⊥) ∷ []

-- 2 of a file name
abbrev pub of_name : ℕ → ℕ → List Line
of_name b z = no 2 (IsNamed b z → ⊥) ∷ []

-- 4 of a northing, from y = 18,662
abbrev pub of_northing : ℕ → List Line
of_northing northing = no 4 (y_end ≤ northing / 500) ∷ []

-- 4, 5 of the record that a point is read from
abbrev pub of_record : List ℕ → ℕ → ℕ → (i : ℕ) → Point → List Line
of_record file b z i p =
    record { number = 4; place = i; condition = OnGround b z p → ⊥ }
    ∷ record { number = 5; place = i; condition = Uncovered file (placed b z p) }
    ∷ []

-- 4, 5, 6 of a point: a point alone, with i = 0, or sample i
abbrev pub of_point : List ℕ → ℕ → ℕ → (i : ℕ) → Point → List Line
of_point file b z i p = of_record file b z i p ++ (record { number = 6; place = i; condition = SomeLacks file (placed b z p) } ∷ [])

-- 4 for the first end, 4 for the second, 7
abbrev pub of_ends : ℕ → ℕ → Point → Point → List Line
of_ends b z p q =
    no 4 (OnGround b z p → ⊥) ∷ no 4 (OnGround b z q → ⊥) ∷ no 7 ((Q p q ≡ 0) ⊎ (farthest < Q p q)) ∷ []

-- 8: a mast or mast limit above 100
abbrev pub of_masts : ℕ → ℕ → List Line
of_masts ma mb = no 8 ((100 < ma) ⊎ (100 < mb)) ∷ []

-- 8: an engine row asked for a sample above N
abbrev pub of_row : Point → Point → ℕ → List Line
of_row p q i = no 8 (N (Q p q) < i) ∷ []

-- the samples from 0 upward, k of them, each tried for 4, 5, 6 in that order
unfoldable pub of_samples : List ℕ → ℕ → ℕ → Point → Point → (k : ℕ) → List Line
of_samples file b z p q zero = []
of_samples file b z p q (suc i) = of_samples file b z p q i ++ of_point file b z i (sample (path_of p q) i)

-- 9: no pair within the limits is clear
abbrev pub of_pairs : List ℕ → ℕ → ℕ → Point → Point → ℕ → ℕ → List Line
of_pairs file b z p q la lb = no 9 ((ma mb : ℕ) → ma ≤ la → mb ≤ lb → verdict file b z p q ma mb ≡ given true → ⊥) ∷ []

-- a call on a path: 1, 2, 3, then 4 for the first end, 4 for the second, 7, then 8 where it has a place in the call, then the samples
abbrev pub of_link : List Line → List ℕ → ℕ → ℕ → Point → Point → List Line
of_link eight file b z p q = of_file file b z ++ ((of_ends b z p q ++ eight) ++ of_samples file b z p q (N (Q p q) + 1))

-- The order of checks of each call. That of `janlishuk_check`, 1, 2, 3, is `of_file`; that of `janlishuk_name`, 2, `of_name`; that of `janlishuk_base`, 4,
-- `of_northing`. `janlishuk_read`, `engine_point` and `janlishuk_engine_point`: 1 to 6
abbrev pub of_reading : List ℕ → ℕ → ℕ → Point → List Line
of_reading file b z p = of_file file b z ++ of_point file b z 0 p

-- `janlishuk_spot`: 1, 2, 3 for M outside its range, 4, then 3 for the first entry looked at that is neither 0 nor 7 to M, then 5 and 6 (document 02,
-- request c)
abbrev pub of_spot : List ℕ → ℕ → ℕ → Point → List Line
of_spot file b z p =
    no 1 (Whole file → ⊥)
    ∷ no 2 (IsNamed b z → ⊥)
    ∷ no 3 (HighestIn file → ⊥)
    ∷ no 4 (OnGround b z p → ⊥)
    ∷ no 3 (NamesNoRecord file (placed b z p))
    ∷ no 5 (Uncovered file (placed b z p))
    ∷ no 6 (SomeLacks file (placed b z p))
    ∷ []

-- `janlishuk_upload`: 1, 2, 3, then 10 of the lent lists (document 02, request a)
abbrev pub of_upload : List ℕ → ℕ → ℕ → Lists → List Line
of_upload file b z l = of_file file b z ++ (no 10 (Unfit l) ∷ [])

-- `record`: 1 to 5
abbrev pub of_taking : List ℕ → ℕ → ℕ → Point → List Line
of_taking file b z p = of_file file b z ++ of_record file b z 0 p

-- `janlishuk_profile`: 1 to 7
abbrev pub of_profile : List ℕ → ℕ → ℕ → Point → Point → List Line
of_profile file b z p q = of_link [] file b z p q

-- `janlishuk_verdict`: 1 to 8
abbrev pub of_verdict : List ℕ → ℕ → ℕ → Point → Point → ℕ → ℕ → List Line
of_verdict file b z p q ma mb = of_link (of_masts ma mb) file b z p q

-- `janlishuk_plan`: 1 to 9
abbrev pub of_plan : List ℕ → ℕ → ℕ → Point → Point → ℕ → ℕ → List Line
of_plan file b z p q la lb = of_link (of_masts la lb) file b z p q ++ of_pairs file b z p q la lb

-- `janlishuk_engine_row`: 1 to 8
abbrev pub of_engine_row : List ℕ → ℕ → ℕ → Point → Point → ℕ → List Line
of_engine_row file b z p q i = of_link (of_row p q i) file b z p q
