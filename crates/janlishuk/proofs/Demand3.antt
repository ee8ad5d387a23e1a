-- Demand 3, sentence by sentence, in the caller's own fields: whatever plan meets its promise, it is as demanded by what the verdict says. From demand 2 and
-- the laws of the link. Assumes nothing.
use mathlib.Core.Path.{◌≡◌, refl, ap}
use mathlib.Core.Logic.{◌⊎◌, inl, inr, ⊎_elim, ◌↔◌}
use mathlib.Core.List.{List}
use Prim.Native.Nat.{ℕ, ◌+◌, ◌≤◌}
use native.Mathlib.Nat.{le_trans}
use native.Mathlib.Omega.{arith}
use Rattle.ground.specs.declared.point.Point.{Point}
use Rattle.profile.specs.Profile.{Link}
use Rattle.profile.specs.declared.ProfileAnswer.{ProfileAnswer}
use Rattle.masts.specs.Plan.{Pair, NoPair}
use Rattle.link.specs.Clear.{clear, verdict, verdict_answer}
use Rattle.plan.specs.declared.PlanAnswer.{PlanAnswer}
use Rattle.plan.proofs.Laws.Demands.{Meets, demand_3}
use Rattle.janlishuk.specs.Promise.{Profiles, Plans}
use Rattle.janlishuk.specs.Demand.{ClearPair}
use Rattle.janlishuk.proofs.Demand2.{number_is, profiled, link, judged, clears}

-- "For any path whose profile is given, and any two mast limits of 0 to 100 m, the plan"
module _ (file after : List ℕ) (b z : ℕ) (p q : Point) (pr : ProfileAnswer) (profiles : Profiles file after b z p q pr) (is : pr.refusal ≡ 0)
    (la lb : ℕ) (ha : la ≤ 100) (hb : lb ≤ 100) (r : PlanAnswer) (plans : Plans file after b z p q la lb r) where
  abbrev the_link : Link
  the_link = link file after b z p q pr profiles is

  -- pairs that the clear test allows are pairs that the verdict says are clear
  pairs : (ma mb : ℕ) → Pair (clear the_link) la lb ma mb ↔ ClearPair file after b z p q la lb ma mb
  pairs ma mb = (
    (λ x.
        let number = (number_is (clear the_link ma mb)).1 x.clear in
        record {
          first = x.first;
          second = x.second;
          clear = λ v j. rw (judged file after b z p q pr profiles is ma mb (le_trans x.first ha) (le_trans x.second hb) v j) number;
        }),
    λ y.
        let v = verdict_answer (verdict file b z p q ma mb) in
        let clear = y.clear v (refl, profiles.1) in
        record {
          first = y.first;
          second = y.second;
          clear = clears file after b z p q pr profiles is ma mb (le_trans y.first ha) (le_trans y.second hb) v (refl, profiles.1) clear;
        },
  )

  law : Meets file b z p q (profiled file after b z p q pr profiles is).0 (profiled file after b z p q pr profiles is).1 la lb r
      ⊎ ((r ≡ record { refusal = 9; place = 0; first = 0; second = 0 }) × NoPair (clear the_link) la lb)
  law = demand_3 file b z p q _ (profiled file after b z p q pr profiles is).1 ha hb r plans.0

  says_9 : (r ≡ record { refusal = 9; place = 0; first = 0; second = 0 }) × NoPair (clear the_link) la lb → r.refusal ≡ 9
  says_9 x = ap (λ (s : PlanAnswer). s.refusal) x.0

  -- "has its first mast within the first limit and its second within the second, and makes the path clear by demand 2's rule."
  pub plan_is_clear : r.refusal ≡ 0 → ClearPair file after b z p q la lb r.first r.second
  plan_is_clear e = ⊎_elim (λ m. (pairs _ _).0 m.best.pair) (λ x. absurd (omega (arith, e, says_9 x))) law

  -- "No clear pair of whole-metre masts within the limits has a smaller sum, nor the same sum with a lower first mast."
  pub plan_is_least : r.refusal ≡ 0 → (ma mb : ℕ) → ClearPair file after b z p q la lb ma mb
      → (r.first + r.second ≤ ma + mb) × (ma + mb ≡ r.first + r.second → r.first ≤ ma)
  plan_is_least e ma mb y =
      let x = (pairs ma mb).1 y in
      ⊎_elim (λ m. (m.best.least ma mb x, m.best.lower ma mb x)) (λ x. absurd (omega (arith, e, says_9 x))) law

  -- ""No pair" is said exactly when no clear pair within the limits exists."
  pub no_pair_exactly : (r.refusal ≡ 9) ↔ ((ma mb : ℕ) → ClearPair file after b z p q la lb ma mb → ⊥)
  no_pair_exactly = (
    (λ e ma mb y. ⊎_elim (λ m. absurd (omega (arith, e, m.refusal.0))) (λ x. x.1 ma mb ((pairs ma mb).1 y)) law),
    λ none. ⊎_elim (λ m. absurd (none _ _ ((pairs _ _).0 m.best.pair))) says_9 law,
  )

  -- The plan of a path whose profile is given is a pair or refusal 9.
  pub pair_or_none : (r.refusal ≡ 0) ⊎ (r.refusal ≡ 9)
  pair_or_none = ⊎_elim (λ m. inl m.refusal.0) (λ x. inr (says_9 x)) law
