-- Laws of the southern boundaries. From formula 1 and Table 1: the two agree at every entry, the boundaries rise, each file is 28 or 29 rows high
-- and the last ends at 18,662; from these, which base a northing has. Assumes nothing.
use mathlib.Core.Path.{◌≡◌, refl}
use mathlib.Core.Logic.{◌↔◌}
use mathlib.Core.Bool.{Bool, true, false, cond, and-false, and-eq-true_iff}
use Prim.Native.Nat.{ℕ, zero, suc, ◌+◌, ◌-◌, ◌*◌, ◌/◌, ◌%◌, ◌≤◌, ◌<◌}
use native.Mathlib.Nat.{mul-le-mul, le_of_suc-le-suc, not-suc-le-zero, lt_of_not-le, le_of_lt}
use native.Mathlib.Decide.{dec_le}
use native.Mathlib.Omega.{arith}
use lib.Dec.{leb, ltb, eqb}
use lib.ListN.{get_or}
use borrow.Author.Tests.{leb-true, ltb-true, eqb-true, le-ltb, le-leb, lt-ltb}
use Rattle.ground.specs.Outcome.{given, refused}
use Rattle.ground.specs.Every.{every}
use Rattle.ground.specs.Measure.{units}
use Rattle.ground.specs.Boundary.{y_b, y_end, table1, span, rows, is_base, spans, first_spanning, base_at}
use Rattle.ground.specs.declared.measure.Units.{Units}
use Rattle.ground.proofs.Laws.Outcome.{not_both}
use Rattle.ground.proofs.Laws.Every.{every_le, every_eq}

-- Table 1 and formula 1 agree at all 22 entries
pub table_entry : (k : ℕ) → k < 22 → get_or table1 k 0 ≡ (y_b (4 * k)).0
unfolding table1 y_b every
table_entry = every_eq (λ k. get_or table1 k 0) (λ k. (y_b (4 * k)).0) 22 refl

-- the two entries of a file are its boundaries
pub table_span : (k : ℕ) → k < 21 → record { south = units (get_or table1 k 0); north = units (get_or table1 (k + 1) 0) } ≡ span (4 * k)
table_span k h =
    let next : 4 * (k + 1) ≡ 4 * k + 4 = omega arith in
    simp (table_entry k (omega arith), table_entry (k + 1) (omega arith), next)

-- the last boundary
pub last : (y_b 84).0 ≡ y_end
unfolding y_b
last = refl

-- the boundaries rise by at least 217 units a degree
steep : {a b : ℕ} → a ≤ b → (y_b a).0 + 217 * (b - a) ≤ (y_b b).0
unfolding y_b
steep {a} {b} h = omega (arith, mul-le-mul {n₁ = 246 + a} {m₁ = a} {n₂ = 246 + b} {m₂ = b} (omega arith) h)

-- the boundaries rise
pub rising : {a b : ℕ} → a < b → (y_b a).0 < (y_b b).0
rising h = omega (arith, steep (le_of_lt h))

-- no file ends north of the last one
pub north_most : (b : ℕ) → b ≤ 80 → (y_b (b + 4)).0 ≤ y_end
north_most b h = omega (arith, last, steep {a = b + 4} {b = 84} (omega arith))

-- the northern boundary lies `rows` times 31 units above the southern one
pub rows_high : (b : ℕ) → (y_b (b + 4)).0 ≡ (y_b b).0 + 31 * rows b
unfolding y_b rows
rows_high b = omega (arith, steep {a = b} {b = b + 4} (omega arith))

-- a base is four times a number below 21
pub base_at_lem : (b : ℕ) → is_base b ≡ true → (b / 4 < 21) × (4 * (b / 4) ≡ b)
base_at_lem b h =
    let t = (and-eq-true_iff (leb b 80) (eqb (b % 4) 0)).0 h in
    let most = leb-true b 80 t.0 in
    let even = eqb-true (b % 4) 0 t.1 in
    omega arith

-- 28 rows at least, at each base
few : (k : ℕ) → k < 21 → 28 ≤ rows (4 * k)
unfolding y_b rows every
few = every_le (λ _. 28) (λ k. rows (4 * k)) 21 refl

-- 29 rows at most, at each base
many : (k : ℕ) → k < 21 → rows (4 * k) ≤ 29
unfolding y_b rows every
many = every_le (λ k. rows (4 * k)) (λ _. 29) 21 refl

-- a base has 28 or 29 rows
pub rows_28_29 : (b : ℕ) → is_base b ≡ true → (28 ≤ rows b) × (rows b ≤ 29)
rows_28_29 b h =
    let t = base_at_lem b h in
    (rw t.1 at (few (b / 4) t.0), rw t.1 at (many (b / 4) t.0))

-- 899 k is not south of base 4k
above : (k : ℕ) → k < 21 → (y_b (4 * k)).0 ≤ 899 * k
unfolding y_b every
above = every_le (λ k. (y_b (4 * k)).0) (λ k. 899 * k) 21 refl

-- 899 k is not north of base 4k
below : (k : ℕ) → k < 21 → 899 * k ≤ (y_b (4 * k + 4)).0
unfolding y_b every
below = every_le (λ k. 899 * k) (λ k. (y_b (4 * k + 4)).0) 21 refl

-- a base that ends at or below y does not span it
passed : (b : ℕ) (y : Units) → (y_b (b + 4)).0 ≤ y.0 → spans b y ≡ false
unfolding spans
passed b y h = simp (le-ltb _ _ h, and-false)

-- the first base that spans y is found: every base before it ends at or below y
found : (k b j a : ℕ) (y : Units) → j < k → a ≡ b + 4 * j → (y_b a).0 ≤ y.0 → y.0 < (y_b (a + 4)).0 → first_spanning k b y ≡ given a
unfolding first_spanning spans
found zero b j a y lt e l h = absurd (not-suc-le-zero lt)
found (suc k) b zero a y lt e l h =
    let q : a ≡ b = omega arith in
    simp (← q, le-leb _ _ l, lt-ltb _ _ h)
found (suc k) b (suc j) a y lt e l h =
    simp (
      passed b y (omega (arith, steep {a = b + 4} {b = a} (omega arith))),
      found k (b + 4) j a y (le_of_suc-le-suc lt) (omega arith) l h,
    )

-- no base is found where all end at or below y
none : (k b : ℕ) (y : Units) → (y_b (b + 4 * k)).0 ≤ y.0 → first_spanning k b y ≡ refused 4 0
unfolding first_spanning
none zero b y h = refl
none (suc k) b y h =
    let e : b + 4 * suc k ≡ b + 4 + 4 * k = omega arith in
    let h' = rw e at h in
    simp (passed b y (omega (arith, h', steep {a = b + 4} {b = b + 4 + 4 * k} (omega arith))), none k (b + 4) y h')

-- y has no base from 18,662 on
pub base_none : (y : Units) → y_end ≤ y.0 → base_at y ≡ refused 4 0
unfolding base_at
base_none y h = none 21 0 y (omega (arith, last))

-- the base of y is that of file y / 899 + 1 where y is past the northern boundary of file y / 899
pub base_next : (y : Units) → y.0 < y_end → (y_b (4 * (y.0 / 899) + 4)).0 ≤ y.0 → base_at y ≡ given (4 * (y.0 / 899) + 4)
unfolding base_at
base_next y h l =
    let k = y.0 / 899 in
    let e : 4 * (k + 1) ≡ 4 * k + 4 = omega arith in
    let lt : k + 1 < 21 = lt_of_not-le λ ge. omega (arith, last, steep {a = 84} {b = 4 * k + 4} (omega arith)) in
    found 21 0 (k + 1) (4 * k + 4) y lt (omega arith) l (omega (arith, rw e at (below (k + 1) lt)))

-- the base of y is that of file y / 899 where y is before the northern boundary of that file
pub base_own : (y : Units) → y.0 < y_end → y.0 < (y_b (4 * (y.0 / 899) + 4)).0 → base_at y ≡ given (4 * (y.0 / 899))
unfolding base_at
base_own y h l =
    let k = y.0 / 899 in
    found 21 0 k (4 * k) y (omega arith) (omega arith) (omega (arith, above k (omega arith))) l

-- Document 01's own words: the base of y is the b with yB(b) <= y < yB(b+4), and only from 18,662 on is there none.
pub base_is : (b : ℕ) (y : Units) → is_base b ≡ true → (y_b b).0 ≤ y.0 → y.0 < (y_b (b + 4)).0 → base_at y ≡ given b
unfolding base_at
base_is b y h l u = found 21 0 (b / 4) b y (base_at_lem b h).0 (omega (arith, base_at_lem b h)) l u

-- what the search from base b finds among k bases: a base that spans y, at `steps` steps of 4
pub record Spanning (k b : ℕ) (y : Units) (a : ℕ) : Type 0 where
  pub steps : ℕ
  pub within : steps < k
  pub is : a ≡ b + 4 * steps
  pub spans : spans a y ≡ true

-- the search finds no other
spanning : (k b : ℕ) (y : Units) (a : ℕ) → first_spanning k b y ≡ given a → Spanning k b y a
unfolding first_spanning
spanning zero b y a e = absurd (not_both e)
spanning (suc k) b y a e = go (spans b y) refl e (spanning k (b + 4) y a)
  where
    go : (t : Bool) → spans b y ≡ t → cond t (given b) (first_spanning k (b + 4) y) ≡ given a
        → (first_spanning k (b + 4) y ≡ given a → Spanning k (b + 4) y a) → Spanning (suc k) b y a
    go true q e more = let i : b ≡ a = cc e in record { steps = 0; within = omega arith; is = omega arith; spans = rw i at q }
    go false q e more =
        let m = more e in
        record { steps = m.steps + 1; within = omega (arith, m.within); is = omega (arith, m.is); spans = m.spans }

-- the base of y is one of those named, and spans it
pub base_spans : (b : ℕ) (y : Units) → base_at y ≡ given b → (b ≡ 4 * (b / 4)) × (b ≤ 80) × ((y_b b).0 ≤ y.0) × (y.0 < (y_b (b + 4)).0)
unfolding base_at spans
base_spans b y e =
    let s = spanning 21 0 y b e in
    let t : (leb (y_b b).0 y.0 ≡ true) × (ltb y.0 (y_b (b + 4)).0 ≡ true) = (and-eq-true_iff _ _).0 s.spans in
    (omega (arith, s.is), omega (arith, s.is, s.within), leb-true _ _ t.0, ltb-true _ _ t.1)

-- y has no base only from 18,662 on
pub base_refused : (y : Units) → (base_at y ≡ refused 4 0) ↔ (y_end ≤ y.0)
base_refused y = (λ e. go e (dec_le y_end y.0) (dec_le (y_b (4 * (y.0 / 899) + 4)).0 y.0), base_none y)
  where
    go : base_at y ≡ refused 4 0 → Dec (y_end ≤ y.0) → Dec ((y_b (4 * (y.0 / 899) + 4)).0 ≤ y.0) → y_end ≤ y.0
    go e (yes h) d = h
    go e (no h) (yes l) = let z : ◌≡◌ {A = ℕ} 0 1 = cc (base_next y (lt_of_not-le h) l) in omega arith
    go e (no h) (no l) = let z : ◌≡◌ {A = ℕ} 0 1 = cc (base_own y (lt_of_not-le h) (lt_of_not-le l)) in omega arith
