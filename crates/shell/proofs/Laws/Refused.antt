-- The numbers of the refusals of a file and of a path: each is from 1 to 9. From the laws of a point's reading. Assumes nothing.
use mathlib.Core.Bool.{Bool, true, false, not}
use mathlib.Core.List.{List}
use Prim.Native.Nat.{ℕ, zero, suc, ◌+◌, ◌≤◌, ◌<◌}
use native.Mathlib.Omega.{arith}
use lib.Dec.{lit≤, lit<}
use Rattle.ground.specs.Outcome.{Outcome, given, refused, unless, ◌and_then◌}
use Rattle.ground.specs.Boundary.{rows, named}
use Rattle.ground.specs.Ground.{holds}
use Rattle.ground.specs.declared.Ground.{Ground}
use Rattle.index.specs.Bytes.{whole_records}
use Rattle.index.specs.Index.{index_passes}
use Rattle.terrain.specs.Check.{checked}
use Rattle.reading.specs.Reading.{point_in}
use Rattle.reading.specs.declared.point.Reading.{Reading}
use Rattle.reading.proofs.Laws.Answer as reading
use Rattle.path.specs.Path.{sample, too_short_or_long, over_asked, path_of, path_on}
use Rattle.path.specs.declared.Asked.{Asked}
use Rattle.profile.specs.Profile.{at_sample, up_to, link_in, linked}

-- an outcome that is, where it is a refusal, one with a number from 1 to 9
abbrev pub Numbered : {A : Type 0} → Outcome A → Type 0
Numbered (given a) = Unit {0}
Numbered (refused number place) = (0 < number) × (number ≤ 9)

-- a test that refuses with such a number
test : {A : Type 0} (t : Bool) (number : ℕ) (o : Outcome A) → (0 < number) × (number ≤ 9) → Numbered o → Numbered (unless t number o)
test true number o some rest = some
test false number o some rest = rest

-- two such steps
steps : {A B : Type 0} (o : Outcome A) (f : A → Outcome B) → Numbered o → ((a : A) → Numbered (f a)) → Numbered (o and_then f)
steps (given a) f h then = then a
steps (refused number place) f h then = h

-- a sample's refusal, at its place
sampled : (i : ℕ) (o : Outcome Reading) → reading.Numbered o → Numbered (at_sample i o)
sampled i (given a) h = tt
sampled i (refused number place) h = (h.0, omega arith)

-- the samples
all_sampled : (read : ℕ → Outcome Reading) (n k : ℕ) → ((i : ℕ) → reading.Numbered (read i)) → Numbered (up_to read n k)
unfolding up_to
all_sampled read n zero h = tt
all_sampled read n (suc k) h = steps (up_to read n k) _ (all_sampled read n k h) λ p. steps (at_sample k (read k)) _ (sampled k (read k) (h k)) λ r. tt

-- the path: 4, 7 and 8
path_numbered : (g : Ground) (asked : Asked) → Numbered (path_on g asked)
unfolding path_on
path_numbered g asked =
    let w = path_of asked.first asked.second in
    test (not (holds g w.first)) 4 _ (lit< tt, lit≤ tt)
    (test (not (holds g w.second)) 4 _ (lit< tt, lit≤ tt)
    (test (too_short_or_long w.q) 7 _ (lit< tt, lit≤ tt)
    (test (over_asked w.n asked.a asked.b asked.i) 8 _ (lit< tt, lit≤ tt) tt)))

module _ (file : List ℕ) (base zone : ℕ) where
  -- the file: 1, 2 and 3
  pub checked_numbered : Numbered (checked file base zone)
  unfolding checked
  checked_numbered =
      test (not (whole_records file)) 1 _ (lit< tt, lit≤ tt)
      (test (not (named base zone)) 2 _ (lit< tt, lit≤ tt)
      (test (not (index_passes file (rows base))) 3 _ (lit< tt, lit≤ tt) tt))

  -- the file; its path; the samples, 4, 5 and 6
  pub linked_numbered : (asked : Asked) → Numbered (linked file base zone asked)
  unfolding linked link_in
  linked_numbered asked =
      steps (checked file base zone) _ checked_numbered
      λ t. steps (path_on t.ground asked) _ (path_numbered t.ground asked)
      λ w. steps (up_to (λ i. point_in file t (sample w i)) w.n (w.n + 1)) _
      (all_sampled _ w.n (w.n + 1) λ i. reading.point_numbered file t (sample w i))
      λ p. tt
