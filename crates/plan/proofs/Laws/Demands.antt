-- Demand 3: what the plan says of a path whose profile is given, in document 01's letters and in the caller's own fields. From the laws of the verdict and of
-- the plan. Assumes nothing.
use mathlib.Core.Path.{◌≡◌, refl, ◌∙◌, subst}
use mathlib.Core.Logic.{◌⊎◌, inl, inr}
use mathlib.Core.List.{List}
use Prim.Native.Nat.{ℕ, ◌≤◌}
use Rattle.ground.specs.Outcome.{Outcome, given, refused}
use Rattle.ground.specs.declared.point.Point.{Point}
use Rattle.path.specs.Path.{ask_masts}
use Rattle.profile.specs.Profile.{Profile, Link, linked, profile}
use Rattle.masts.specs.Plan.{Best, NoPair, Demand3}
use Rattle.masts.specs.declared.Masts.{Masts}
use Rattle.link.specs.Clear.{clear}
use Rattle.plan.specs.Plan.{plan_answer, Plan, Allowed}
use Rattle.plan.specs.declared.PlanAnswer.{PlanAnswer}
use Rattle.profile.proofs.Laws.Link.{link_given}
use Rattle.link.proofs.Laws.Demands as of

-- Of a path whose profile is given:
module _ (file : List ℕ) (base zone : ℕ) (p q : Point) (pr : Profile) (e : profile file base zone p q ≡ given pr) where
  abbrev link : Link
  link = of.link file base zone p q pr e

  -- the answer r has the best pair beside refusal 0
  pub record Meets (la lb : ℕ) (r : PlanAnswer) : Type 0 where
    pub refusal : (r.refusal ≡ 0) × (r.place ≡ 0)
    pub best : Best (clear link) la lb (record { first = r.first; second = r.second })

  -- whatever the plan answers for two limits of 0 to 100 m is what demand 3 allows of that test: the best pair, or refusal 9 alone
  pub demand_3 : {la lb : ℕ} → la ≤ 100 → lb ≤ 100 → (r : PlanAnswer) → Plan (linked file base zone (ask_masts p q la lb)) la lb r
      → Meets la lb r ⊎ ((r ≡ record { refusal = 9; place = 0; first = 0; second = 0 }) × NoPair (clear link) la lb)
  demand_3 {la} {lb} ha hb r s = go allowed.outcome allowed.meets allowed.answers
    where
      allowed : Allowed link la lb r
      allowed = subst (λ (o : Outcome Link). Plan o la lb r) (link_given file base zone (ask_masts p q la lb) pr e (of.masts_within file base zone p q pr e ha hb)) s

      go : (o : Outcome Masts) → Demand3 (clear link) la lb o → r ≡ plan_answer o
          → Meets la lb r ⊎ ((r ≡ record { refusal = 9; place = 0; first = 0; second = 0 }) × NoPair (clear link) la lb)
      go (given m) d i =
          inl (rw i (record { refusal = (refl, refl); best = d }))
      go (refused number place) d i = inr (i ∙ rw (d.0.0, d.0.1), d.1)
