-- Demand 3 allows one outcome, and the executable form of the plan is it. From the laws of the first number at which a test holds. Assumes nothing.
use mathlib.Core.Path.{◌≡◌, refl, sym}
use mathlib.Core.Logic.{◌⊎◌, inl, inr}
use mathlib.Core.Bool.{Bool, ◌&&◌, and-eq-true_iff}
use Prim.Native.Nat.{ℕ, ◌+◌, ◌-◌, ◌≤◌}
use native.Mathlib.Decide.{dec_le}
use native.Mathlib.Omega.{arith}
use lib.Dec.{leb}
use borrow.Author.Tests.{le-leb, leb-true, lt-ltb, le-ltb}
use Rattle.ground.specs.Outcome.{Outcome, given, refused}
use Rattle.path.proofs.Laws.First.{First, first_is, first_at_most}
use Rattle.masts.specs.Plan.{Pair, Best, NoPair, Demand3, first_mast, least_sum, plan_of}
use Rattle.masts.specs.declared.Masts.{Masts}

module _ (clears : ℕ → ℕ → Bool) (la lb : ℕ) where
  -- demand 3 is met by one outcome only
  pub demand_once : (o p : Outcome Masts) → Demand3 clears la lb o → Demand3 clears la lb p → o ≡ p
  demand_once (given m) (given n) g h =
      let sum : m.first + m.second ≡ n.first + n.second =
      omega (arith, g.least n.first n.second h.pair, h.least m.first m.second g.pair) in
      let first : m.first ≡ n.first =
      omega (arith, g.lower n.first n.second h.pair (sym sum), h.lower m.first m.second g.pair sum) in
      let second : m.second ≡ n.second = omega arith in
      λ i. given (record { first = first i; second = second i })
  demand_once (given m) (refused number place) g h = absurd (h.1 m.first m.second g.pair)
  demand_once (refused number place) (given n) g h = absurd (g.1 n.first n.second h.pair)
  demand_once (refused number place) (refused other at) g h = cc

  -- the first mast is the first number at which its test holds
  mast_is : (sum : ℕ) → First (λ a. leb a la && leb (sum - a) lb && clears a (sum - a)) (sum + 1) 0 (first_mast clears la lb sum)
  unfolding first_mast
  mast_is sum = first_is _ (sum + 1) 0

  -- the least sum is the first number at which its test holds
  sum_is : First (λ sum. leb (first_mast clears la lb sum) sum) (la + lb + 1) 0 (least_sum clears la lb)
  unfolding least_sum
  sum_is = first_is _ (la + lb + 1) 0

  -- a first mast that is not above its sum is that of a clear pair
  mast_pairs : (sum : ℕ) → first_mast clears la lb sum ≤ sum → Pair clears la lb (first_mast clears la lb sum) (sum - first_mast clears la lb sum)
  mast_pairs sum h =
      let t = (and-eq-true_iff _ _).0 ((mast_is sum).holds (omega arith)) in
      let u = (and-eq-true_iff _ _).0 t.0 in
      record { first = leb-true _ _ u.0; second = leb-true _ _ u.1; clear = t.1 }

  -- no clear pair has a lower first mast than that of its sum
  mast_lowest : (a b : ℕ) → Pair clears la lb a b → first_mast clears la lb (a + b) ≤ a
  mast_lowest a b p =
      let back : a + b - a ≡ b = omega arith in
      first_at_most (mast_is (a + b)) a (omega arith) (rw (back, le-leb a la p.first, le-leb b lb p.second) p.clear)

  -- no clear pair has a sum below the least
  sum_least : (a b : ℕ) → Pair clears la lb a b → least_sum clears la lb ≤ a + b
  sum_least a b p = first_at_most sum_is (a + b) (omega arith) (le-leb (first_mast clears la lb (a + b)) (a + b) (omega (arith, mast_lowest a b p)))

  -- the executable plan meets demand 3
  pub plan_of_meets : Demand3 clears la lb (plan_of clears la lb)
  unfolding plan_of
  plan_of_meets = go (dec_le (least_sum clears la lb) (la + lb))
    where
      go : Dec (least_sum clears la lb ≤ la + lb) → Demand3 clears la lb (plan_of clears la lb)
      go (yes l) =
          let sum : ℕ = least_sum clears la lb in
          let under : first_mast clears la lb sum ≤ sum = leb-true _ _ (sum_is.holds (omega arith)) in
          rw (le-ltb (la + lb) sum l) (record {
            pair = mast_pairs sum under;
            least = λ a b p. omega (arith, sum_least a b p);
            lower = λ a b p e. let q : a + b ≡ sum = omega arith in rw q at (mast_lowest a b p);
          })
      go (no h) = rw (lt-ltb (la + lb) (least_sum clears la lb) (omega arith))
          ((refl, refl), λ a b p. omega (arith, sum_least a b p))

  -- the executable plan is a best pair, or says that there is none
  pub planned : ((m : Masts) × ((plan_of clears la lb ≡ given m) × Best clears la lb m)) ⊎ ((plan_of clears la lb ≡ refused 9 0) × NoPair clears la lb)
  planned = go (plan_of clears la lb) plan_of_meets
    where
      go : (o : Outcome Masts) → Demand3 clears la lb o → ((m : Masts) × ((o ≡ given m) × Best clears la lb m)) ⊎ ((o ≡ refused 9 0) × NoPair clears la lb)
      go (given m) d = inl (m, (refl, d))
      go (refused number place) d = inr ((λ i. refused (d.0.0 i) (d.0.1 i)), d.1)
