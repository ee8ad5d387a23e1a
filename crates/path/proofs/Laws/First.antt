-- The first number at which a test holds: what `first_from` finds. Assumes nothing.
use mathlib.Core.Path.{◌≡◌, refl, sym, ◌∙◌}
use mathlib.Core.Bool.{Bool, true, false, true≢false}
use mathlib.Core.Logic.{⊎_elim}
use Prim.Native.Nat.{ℕ, zero, suc, ◌+◌, ◌≤◌, ◌<◌}
use native.Mathlib.Nat.{eq-or-lt_of_le}
use native.Mathlib.Decide.{dec_lt}
use native.Mathlib.Omega.{arith}
use Rattle.path.specs.First.{first_from}

-- r is the first of m, m + 1, .. at which the test holds, or m + k, where it holds at none of k
pub record First (test : ℕ → Bool) (k m r : ℕ) : Type 0 where
  pub least : m ≤ r
  pub most : r ≤ m + k
  pub holds : r < m + k → test r ≡ true
  pub before : (j : ℕ) → m ≤ j → j < r → test j ≡ false

-- one number more to try
step : (test : ℕ → Bool) (k m : ℕ) (t : Bool) → test m ≡ t → First test k (m + 1) (first_from test k (m + 1))
    → First test (suc k) m (first_from test (suc k) m)
unfolding first_from
step test k m true e f = rw e (record { least = omega arith; most = omega arith; holds = λ h. e; before = λ j l h. absurd (omega arith) })
step test k m false e f =
    rw e (record {
      least = omega (arith, f.least);
      most = omega (arith, f.most);
      holds = λ h. f.holds (omega arith);
      before = λ j l h. ⊎_elim (λ (q : m ≡ j). rw q at e) (λ (u : m < j). f.before j (omega arith) h) (eq-or-lt_of_le l);
    })

-- what `first_from` finds is what `First` says
pub first_is : (test : ℕ → Bool) (k m : ℕ) → First test k m (first_from test k m)
unfolding first_from
first_is test zero m =
    record { least = omega arith; most = omega arith; holds = λ h. absurd (omega arith); before = λ j l h. absurd (omega arith) }
first_is test (suc k) m = step test k m (test m) refl (first_is test k (m + 1))

-- the first number is no later than one at which the test holds
pub first_at_most : {test : ℕ → Bool} {k m r : ℕ} → First test k m r → (j : ℕ) → m ≤ j → test j ≡ true → r ≤ j
first_at_most {r = r} f j h t = go (dec_lt j r)
  where
    go : Dec (j < r) → r ≤ j
    go (yes l) = absurd (true≢false (sym t ∙ f.before j h l))
    go (no l) = omega arith
