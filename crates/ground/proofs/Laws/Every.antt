-- A test at each number of a range, against the facts at the numbers: `holds` and `holds_at` go from the facts to the whole test and back,
-- `fails_at` from a failure at one number, `next` and `skip` add numbers; and `every_le` and `every_eq` are a rule for every number below n, shown
-- by one test that is computed. From the definition of `every`. Assumes nothing.
use mathlib.Core.Path.{◌≡◌, refl, sym, ◌∙◌}
use mathlib.Core.Bool.{Bool, true, false, ◌&&◌, ◌||◌, and-eq-true_iff, and-true, or-true, not-eq-not, true≢false}
use mathlib.Core.Logic.{⊎_elim}
use Prim.Native.Nat.{ℕ, zero, suc, ◌+◌, ◌-◌, ◌≤◌, ◌<◌}
use native.Mathlib.Nat.{add-zero, add-suc, not-suc-le-zero, le_of_suc-le-suc, eq-or-lt_of_le, lt_of_not-le}
use native.Mathlib.Numerals.{add-one}
use native.Mathlib.Decide.{dec_le}
use native.Mathlib.Omega.{arith}
use lib.Dec.{leb, ltb, eqb}
use borrow.Author.Tests.{lt-ltb, le-ltb, leb-true, eqb-true}
use Rattle.ground.specs.Every.{every}

module _ (test : ℕ → Bool) (first : ℕ) where
  -- one number more
  pub next : (n : ℕ) → first ≤ n → every test first (n + 1) ≡ (every test first n && test n)
  unfolding every
  next n h = rw (add-one, le-ltb n first h)

  -- d numbers more, at each of which the test holds
  more : (n d : ℕ) → ((k : ℕ) → n ≤ k → k < n + d → test k ≡ true) → every test first (n + d) ≡ every test first n
  unfolding every
  more n zero t = rw add-zero
  more n (suc d) t =
      simp (
        add-suc,
        t (n + d) (omega arith) (omega arith),
        or-true,
        and-true,
        more n d λ k l h. t k l (omega arith),
      )

  -- all numbers up to m, where the test holds at each from n on
  pub skip : (n m : ℕ) → n ≤ m → ((k : ℕ) → n ≤ k → k < m → test k ≡ true) → every test first m ≡ every test first n
  skip n m h t =
      let e : n + (m - n) ≡ m = omega arith in
      rw e at (more n (m - n) λ k l u. t k l (omega arith))

  -- the whole test, from the facts at the numbers
  pub holds : (n : ℕ) → ((k : ℕ) → first ≤ k → k < n → test k ≡ true) → every test first n ≡ true
  unfolding every
  holds zero t = refl
  holds (suc n) t = (and-eq-true_iff (every test first n) (ltb n first || test n)).1 (
    holds n (λ k l h. t k l (omega arith)),
    in_range (dec_le first n),
  )
    where
      in_range : Dec (first ≤ n) → (ltb n first || test n) ≡ true
      in_range (yes l) = simp (t n l (omega arith), or-true)
      in_range (no g) = simp (lt-ltb n first (lt_of_not-le g))

  -- an empty range
  pub none : every test first first ≡ true
  none = holds first λ k l h. absurd (omega arith)

  -- the fact at a number, from the whole test
  pub holds_at : (n : ℕ) → every test first n ≡ true → (k : ℕ) → first ≤ k → k < n → test k ≡ true
  unfolding every
  holds_at zero e k l h = absurd (not-suc-le-zero h)
  holds_at (suc n) e k l h =
      let t = (and-eq-true_iff (every test first n) (ltb n first || test n)).0 e in
      ⊎_elim
      (λ (q : k ≡ n). rw q (rw (le-ltb n first (omega arith)) at t.1))
      (λ (u : k < n). holds_at n t.0 k l u)
      (eq-or-lt_of_le (le_of_suc-le-suc h))

  -- the whole test fails where it fails at a number
  pub fails_at : (n k : ℕ) → first ≤ k → k < n → test k ≡ false → every test first n ≡ false
  fails_at n k l h e = (not-eq-not {b = false}).0 λ q. true≢false (sym (holds_at n q k l h) ∙ e)

-- two tests that agree at each number of the range
pub agree : (f g : ℕ → Bool) (first n : ℕ) → ((k : ℕ) → first ≤ k → k < n → f k ≡ g k) → every f first n ≡ every g first n
unfolding every
agree f g first zero t = refl
agree f g first (suc n) t = rw (agree f g first n λ k l h. t k l (omega arith), at_end (dec_le first n))
  where
    at_end : Dec (first ≤ n) → (ltb n first || f n) ≡ (ltb n first || g n)
    at_end (yes l) = rw (t n l (omega arith))
    at_end (no h) = simp (lt-ltb n first (lt_of_not-le h))

-- a rule for every number below n, where the computed test is an order
pub every_le : (f g : ℕ → ℕ) (n : ℕ) → every (λ k. leb (f k) (g k)) 0 n ≡ true → (k : ℕ) → k < n → f k ≤ g k
every_le f g n t k h = leb-true (f k) (g k) (holds_at (λ m. leb (f m) (g m)) 0 n t k (omega arith) h)

-- a rule for every number below n, where the computed test is an equation
pub every_eq : (f g : ℕ → ℕ) (n : ℕ) → every (λ k. eqb (f k) (g k)) 0 n ≡ true → (k : ℕ) → k < n → f k ≡ g k
every_eq f g n t k h = eqb-true (f k) (g k) (holds_at (λ m. eqb (f m) (g m)) 0 n t k (omega arith) h)
