-- `on_masts` meets its contract: the two names are looked up; of two points, what `plan` answers is shown. Assumes nothing.
use Rattle.std.specs.Prelude.{Ok}
use native.Mathlib.Omega.{arith}
use Rattle.std.proofs.lemmas.Grind.{common_steps}
use mathlib.Core.Path.{◌≡◌, ◌∙◌, ap}
use mathlib.Core.List.{List}
use Prim.Native.Nat.{ℕ}
use Rattle.ground.specs.declared.point.Point.{Point}
use Rattle.profile.specs.Profile.{path_outcome_of}
use Rattle.plan.proofs.Laws.Plan.{planned_once}
use Rattle.plan.specs.Plan.{plan}
use Rattle.shell.specs.Session.{planned, on_masts}
use Rattle.shell.specs.Inside.{said_by, ends_means}
use Rattle.shell.specs.declared.answer.Answer.{Answer}
use Rattle.shell.proofs.command.Shell.on_masts.Goals as goal

-- what is asked of two points
abbrev ask : (a b : ℕ) → List ℕ → ℕ → ℕ → Point → Point → Answer
ask a b file base zone p q = planned (plan file base zone p q a b)

pub returns-in_err-ends : goal.returns-in_err-ends
unfolding on_masts
returns-in_err-ends c s first second h n m e d =
    let said : said_by c.from_residual.result ≡ ends_means c.look_up.result (ask c.args.a c.args.b c.args.file.now) = grind (arith, common_steps) in
    said ∙ c.look_up.ensures _ s first second h n m e d (ask c.args.a c.args.b)

-- what `plan` answers is the executable plan
pub returns-in_err-masts : goal.returns-in_err-masts
unfolding on_masts
returns-in_err-masts c s first second h n m e d =
    let ends : c.look_up.result ≡ Ok c.in_ok-ends.ends = grind (arith, common_steps) in
    let said : said_by c.from_residual-in_err-masts.result ≡ planned (path_outcome_of c.plan.result) = grind (arith, common_steps) in
    said ∙ ap planned (planned_once _ _ _ _ c.plan.ensures) ∙ rw ends at (c.look_up.ensures _ s first second h n m e d (ask c.args.a c.args.b))

pub returns : goal.returns
unfolding on_masts
returns c s first second h n m e d =
    let ends : c.look_up.result ≡ Ok c.in_ok-ends.ends = grind (arith, common_steps) in
    ap planned (planned_once _ _ _ _ c.in_ok-masts.ensures) ∙ rw ends at (c.look_up.ensures _ s first second h n m e d (ask c.args.a c.args.b))
