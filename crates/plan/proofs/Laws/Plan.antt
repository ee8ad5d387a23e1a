-- An answer that demand 3 allows is that of the executable plan, so there is one. From the law that demand 3 allows one outcome. Assumes nothing.
use mathlib.Core.Path.{◌≡◌, ◌∙◌, ap}
use mathlib.Core.List.{List}
use Prim.Native.Nat.{ℕ}
use Rattle.ground.specs.Outcome.{Outcome, given, refused, ◌and_then◌}
use Rattle.ground.specs.declared.point.Point.{Point}
use Rattle.path.specs.Path.{ask_masts}
use Rattle.profile.specs.Profile.{Link, linked}
use Rattle.masts.specs.Plan.{plan_of}
use Rattle.masts.proofs.Laws.Plan.{demand_once, plan_of_meets}
use Rattle.link.specs.Clear.{clear}
use Rattle.masts.specs.declared.Masts.{Masts}
use Rattle.plan.specs.Plan.{plan_answer, Planned, Plan, plan}
use Rattle.plan.specs.declared.PlanAnswer.{PlanAnswer}

-- what the plan answers for a link, or for the refusal before it, is the executable plan
answer_is : (o : Outcome Link) (la lb : ℕ) (r : PlanAnswer) → Plan o la lb r → r ≡ plan_answer (o and_then λ l. plan_of (clear l) la lb)
answer_is (given l) la lb r p =
    p.answers ∙ ap plan_answer (demand_once (clear l) la lb p.outcome (plan_of (clear l) la lb) p.meets (plan_of_meets (clear l) la lb))
answer_is (refused number place) la lb r e = e

-- the answer of a permitted outcome is a permitted answer
pub planned_answer : (o : Outcome Link) (la lb : ℕ) (p : Outcome Masts) {r : PlanAnswer} → Planned o la lb p → r ≡ plan_answer p → Plan o la lb r
planned_answer (given l) la lb p d e = record { outcome = p; meets = d; answers = e }
planned_answer (refused number place) la lb p d e = e ∙ ap plan_answer d

-- only one outcome is permitted
pub planned_once : (o : Outcome Link) (la lb : ℕ) (p : Outcome Masts) → Planned o la lb p → p ≡ (o and_then λ l. plan_of (clear l) la lb)
planned_once (given l) la lb p d = demand_once (clear l) la lb p (plan_of (clear l) la lb) d (plan_of_meets (clear l) la lb)
planned_once (refused number place) la lb p d = d

module _ (file : List ℕ) (base zone : ℕ) (p q : Point) (la lb : ℕ) where
  -- what the plan answers for a path of a file is the executable plan
  pub plan_is : (r : PlanAnswer) → Plan (linked file base zone (ask_masts p q la lb)) la lb r → r ≡ plan_answer (plan file base zone p q la lb)
  plan_is = answer_is (linked file base zone (ask_masts p q la lb)) la lb
