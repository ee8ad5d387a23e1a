-- The mast plan of a path: demand 3 on the clear test. Document 01, "A path" and "The numbers we say no with". Assumes nothing.
use Rattle.std.specs.Prelude.{ℕ, ◌≡◌, List}
use Rattle.ground.specs.Outcome.{Outcome, given, refused, ◌and_then◌, refusal_number, refusal_place, filled_by}
use Rattle.ground.specs.declared.point.Point.{Point}
use Rattle.path.specs.Path.{ask_masts}
use Rattle.profile.specs.Profile.{Link, linked}
use Rattle.masts.specs.Plan.{Demand3, plan_of}
use Rattle.masts.specs.declared.Masts.{Masts}
use Rattle.link.specs.Clear.{clear}
use Rattle.plan.specs.declared.PlanAnswer.{PlanAnswer}

-- the answer of `janlishuk_plan` as the caller gets it
abbrev pub plan_answer : Outcome Masts → PlanAnswer
plan_answer o =
    let m : Masts = filled_by (record { first = 0; second = 0 }) o in
    record {
      refusal = refusal_number o;
      place = refusal_place o;
      first = m.first;
      second = m.second;
    }

-- o is a permitted outcome of the plan: one that demand 3 allows for the link, or, where no link is given, the refusal that came before
abbrev pub Planned : Outcome Link → ℕ → ℕ → Outcome Masts → Type 0
Planned (given l) la lb o = Demand3 (clear l) la lb o
Planned (refused number place) la lb o = o ≡ refused number place

-- r is an answer that demand 3 allows for the clear test of this link
pub record Allowed (l : Link) (la lb : ℕ) (r : PlanAnswer) : Type 0 where
  pub outcome : Outcome Masts
  pub meets : Demand3 (clear l) la lb outcome
  pub answers : r ≡ plan_answer outcome

-- r is a permitted answer of the plan: one that demand 3 allows for the link, or, where no link is given, the refusal that came before
abbrev pub Plan : Outcome Link → ℕ → ℕ → PlanAnswer → Type 0
Plan (given l) la lb r = Allowed l la lb r
Plan (refused number place) la lb r = r ≡ plan_answer (refused number place)

-- the executable plan of a file's path: a refusal of `linked`, 8 among them for a limit above 100, then 9, or the two masts
abbrev pub plan : List ℕ → ℕ → ℕ → Point → Point → ℕ → ℕ → Outcome Masts
plan file base zone first second la lb = linked file base zone (ask_masts first second la lb) and_then λ l. plan_of (clear l) la lb
