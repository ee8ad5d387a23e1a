-- Some file passes the check, so no law of a file that passes speaks of nothing. In the file rectangle 50 has record 7, M is 7, and every other byte
-- is 0. Its four corners are points of four rectangles, and record 7 is taken for each of them. The least file that there is passes too.
-- Assumes nothing.
use mathlib.Core.Path.{◌≡◌, refl, sym, ◌∙◌}
use mathlib.Core.Logic.{◌⊎◌, inl, inr}
use mathlib.Core.List.{List}
use Prim.Native.Nat.{ℕ, ◌+◌, ◌-◌, ◌*◌, ◌≤◌, ◌<◌}
use native.Mathlib.Decide.{ℕ_discrete}
use native.Mathlib.Omega.{arith}
use lib.ListN.{length, get_or, set, replicate, length-set, length-replicate, get_or-replicate}
use lib.Seq.{get_or-set_other}
use Rattle.ground.specs.Outcome.{given}
use Rattle.ground.specs.Measure.{metres}
use Rattle.ground.specs.Boundary.{y_b, rows}
use Rattle.ground.specs.Ground.{ground_of}
use Rattle.ground.specs.Place.{weights_of, place_at, place_of}
use Rattle.ground.specs.Seam.{allowed}
use Rattle.index.specs.Bytes.{nth}
use Rattle.index.specs.Index.{position, highest, Passes}
use Rattle.terrain.specs.Record.{entry, first_covered, taken, rectangle_of}
use Rattle.terrain.specs.declared.record.Taken.{Taken}

-- the bytes of seven records, all 0
unfoldable blank : List ℕ
blank = replicate 7168 0

-- position 50 and position 3072 hold 7
unfoldable pub file : List ℕ
unfolding blank
file = set (set blank 99 7) 6143 7

blank_long : length blank ≡ 7168
unfolding blank
blank_long = length-replicate {A = ℕ} 7168 0

long : length file ≡ 7168
unfolding file
long = simp (length-set, blank_long)

zero_at : (i : ℕ) → i < 7168 → (i ≡ 99 → ⊥) → (i ≡ 6143 → ⊥) → get_or file i 0 ≡ 0
unfolding file blank
zero_at i h a b = get_or-set_other (set blank 99 7) 6143 i 7 0 b ∙ get_or-set_other blank 99 i 7 0 a ∙ get_or-replicate 7168 i 0 0 h

-- position 50 holds 7
at_50 : position file 50 ≡ 7
unfolding nth file blank
at_50 = refl

-- M is 7
M : highest file ≡ 7
unfolding nth file blank
M = refl

-- the other positions hold 0
empty : (n : ℕ) → 1 ≤ n → n ≤ 3071 → (n ≡ 50 → ⊥) → position file n ≡ 0
unfolding nth
empty n a b c =
    rw (
      zero_at (2 * (n - 1)) (omega arith) (λ e. omega arith) (λ e. omega arith),
      zero_at (2 * (n - 1) + 1) (omega arith) (λ e. c (omega arith)) (λ e. omega arith),
    )

-- `file` passes, on a ground of 28 rows
pub some_passes : Passes file 28
some_passes =
    record {
      whole = omega (arith, long);
      lowest_m = omega (arith, M);
      highest_m = omega (arith, M, long);
      entries = λ n a b. entries n a b (ℕ_discrete n 50);
      once = λ m n a b c e. once m n a b c e (ℕ_discrete n 50);
      rest = λ n a b. empty n (omega arith) b (λ e. omega arith);
    }
  where
    entries : (n : ℕ) → 1 ≤ n → n < 2800 → Dec (n ≡ 50) → (position file n ≡ 0) ⊎ ((7 ≤ position file n) × (position file n ≤ highest file))
    entries n a b (yes e) = inr (rw e (omega (arith, at_50, M)))
    entries n a b (no e) = inl (empty n a (omega arith) e)

    once : (m n : ℕ) → 1 ≤ m → m < n → n < 2800 → position file m ≡ position file n → Dec (n ≡ 50) → position file n ≡ 0
    once m n a b c e (yes q) = sym e ∙ empty m a (omega arith) (λ r. omega arith)
    once m n a b c e (no q) = empty n (omega arith) (omega arith) q

-- for the point (E, N) of base 40 and zone 17 the record of rectangle 50 is taken, at this row and column
pub record TakenAt (E N row column : ℕ) : Type 0 where
  pub source : Taken
  pub taken : taken file (place_of (ground_of 40 17) (record { zone = 17; easting = metres E; northing = metres N })) ≡ given source
  pub record_7 : source.entry ≡ 7
  pub rectangle : rectangle_of source ≡ 50
  pub wy : source.place.wy.0 ≡ row
  pub wx : source.place.wx.0 ≡ column

-- the four corners of rectangle 50: its own, and those to the west, to the south and to the south-west of which it is
pub corners_taken : TakenAt 500000 4433000 0 0 × (TakenAt 507500 4433000 0 15 × (TakenAt 500000 4448500 31 0 × TakenAt 507500 4448500 31 15))
unfolding y_b rows weights_of place_at place_of allowed nth entry first_covered taken file blank
corners_taken = (
  record { source = _; taken = refl; record_7 = refl; rectangle = refl; wy = refl; wx = refl },
  (
    record { source = _; taken = refl; record_7 = refl; rectangle = refl; wy = refl; wx = refl },
    (
      record { source = _; taken = refl; record_7 = refl; rectangle = refl; wy = refl; wx = refl },
      record { source = _; taken = refl; record_7 = refl; rectangle = refl; wy = refl; wx = refl },
    ),
  ),
)

-- the least file: six records, which cover nothing, and M is 6
unfoldable pub least : List ℕ
least = set (replicate 6144 0) 6143 6

least_long : length least ≡ 6144
unfolding least
least_long = simp (length-set, length-replicate)

least_M : highest least ≡ 6
unfolding nth least
least_M = refl

least_empty : (n : ℕ) → 1 ≤ n → n ≤ 3071 → position least n ≡ 0
unfolding nth least
least_empty n a b =
    let zero : (i : ℕ) → i < 6143 → get_or least i 0 ≡ 0 =
    λ i h. get_or-set_other (replicate 6144 0) 6143 i 6 0 (λ e. omega arith) ∙ get_or-replicate 6144 i 0 0 (omega arith) in
    rw (zero (2 * (n - 1)) (omega arith), zero (2 * (n - 1) + 1) (omega arith))

-- `least` passes, on a ground of 28 rows
pub least_passes : Passes least 28
least_passes =
    record {
      whole = omega (arith, least_long);
      lowest_m = omega (arith, least_M);
      highest_m = omega (arith, least_M, least_long);
      entries = λ n a b. inl (least_empty n a (omega arith));
      once = λ m n a b c e. least_empty n (omega arith) (omega arith);
      rest = λ n a b. least_empty n (omega arith) b;
    }
