-- Q is the square of a path's length, and N the least number whose steps of 500 m reach as far. From the law of the first number at which a test holds.
-- Assumes nothing.
use mathlib.Core.Path.{◌≡◌}
use mathlib.Core.Logic.{◌⊎◌, inl, inr}
use Prim.Native.Nat.{ℕ, zero, suc, ◌+◌, ◌-◌, ◌*◌, ◌/◌, ◌≤◌, ◌<◌}
use native.Mathlib.Nat.{mul-le-mul, lt_of_not-le, le_of_suc-le-suc, le_antisymm, le_trans}
use native.Mathlib.Decide.{dec_lt}
use native.Mathlib.Omega.{arith}
use lib.Dec.{leb}
use borrow.Author.Tests.{le-leb, leb-true}
use Rattle.ground.specs.declared.point.Point.{Point}
use Rattle.path.specs.Path.{apart, Q, far, farthest, N, IsN}
use Rattle.path.specs.Inside.{line_end}
use Rattle.path.proofs.Laws.First.{First, first_is, first_at_most}

-- two numbers lie d apart, one way or the other
abbrev pub Apart : ℕ → ℕ → ℕ → Type 0
Apart a b d = (a + d ≡ b) ⊎ (b + d ≡ a)

-- `apart` is how far they lie apart
apart_is : {a b d : ℕ} → Apart a b d → apart a b ≡ d
apart_is (inl e) = omega arith
apart_is (inr e) = omega arith

-- Q = dE² + dN², whichever way dE and dN go
pub Q_is : (p q : Point) (dE dN : ℕ) → Apart p.easting.0 q.easting.0 dE → Apart p.northing.0 q.northing.0 dN → Q p q ≡ dE * dE + dN * dN
unfolding Q
Q_is p q dE dN e n = rw (apart_is e, apart_is n)

-- the square of a distance between points on a ground fits 64 bits
pub square_most : {d : ℕ} → d ≤ line_end → d * d ≤ 87067561000000
square_most h = mul-le-mul h h

-- more steps reach farther
far_rises : {m n : ℕ} → m ≤ n → far m ≤ far n
far_rises {m} {n} h = mul-le-mul {n₁ = 500 * m} {m₁ = 500 * m} {n₂ = 500 * n} {m₂ = 500 * n} (omega arith) (omega arith)

-- Q steps reach far enough
enough : (q : ℕ) → q ≤ far q
enough zero = omega arith
enough (suc q) = omega (arith, mul-le-mul {n₁ = 1} {m₁ = suc q} {n₂ = 250000 * suc q} {m₂ = suc q} (omega arith) (omega arith))

-- N is the least whole number of at least 1 with (500 N)² >= Q
pub N_is : (q : ℕ) → IsN q (N q)
unfolding N
N_is q =
    let f = first_is (λ m. leb q (far m)) q 1 in
    record {
      some = f.least;
      reach = reach_of f (dec_lt (N q) (1 + q));
      least = λ m s r. first_at_most f m s (le-leb _ _ r);
    }
  where
    reach_of : First (λ m. leb q (far m)) q 1 (N q) → Dec (N q < 1 + q) → q ≤ far (N q)
    reach_of f (yes h) = leb-true _ _ (f.holds h)
    reach_of f (no h) = le_trans (enough q) (far_rises (omega arith))

-- only N is that number
pub N_only : {q n : ℕ} → IsN q n → n ≡ N q
N_only {q} {n} l =
    let k = N_is q in
    le_antisymm (l.least (N q) k.some k.reach) (k.least n l.some l.reach)

-- no path has more than 200 steps
pub N_most : (q : ℕ) → q ≤ farthest → N q ≤ 200
N_most q h = (N_is q).least 200 (omega arith) (omega arith)

-- one more than the root of (q-1) / 500², rounded down, is N
pub root_found : (q r : ℕ) → r * r ≤ (q - 1) / 250000 → (q - 1) / 250000 < (r + 1) * (r + 1) → r + 1 ≡ N q
root_found q r low high =
    N_only (record {
      some = omega arith;
      reach = omega (arith, high);
      least = λ m s h. le_of_suc-le-suc (lt_of_not-le λ (u : m < r + 1). omega (arith, low, mul-le-mul s s, mul-le-mul {n₁ = m} {m₁ = m} {n₂ = r} {m₂ = r} (omega arith) (omega arith)));
    })
