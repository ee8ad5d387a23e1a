-- `on_path` meets its contract: the two names are looked up; of two points, what `sight` answers is shown. Assumes nothing.
use Rattle.std.specs.Prelude.{Ok}
use native.Mathlib.Omega.{arith}
use Rattle.std.proofs.lemmas.Grind.{common_steps}
use mathlib.Core.Path.{◌≡◌, ◌∙◌, ap}
use mathlib.Core.List.{List}
use Prim.Native.Nat.{ℕ}
use Rattle.ground.specs.declared.point.Point.{Point}
use Rattle.profile.specs.Profile.{path_outcome_of}
use Rattle.link.specs.Clear.{sight}
use Rattle.shell.specs.Session.{seen, on_path}
use Rattle.shell.specs.Inside.{said_by, ends_means}
use Rattle.shell.specs.declared.answer.Answer.{Answer}
use Rattle.shell.proofs.command.Shell.on_path.Goals as goal

-- what is asked of two points
abbrev ask : List ℕ → ℕ → ℕ → Point → Point → Answer
ask file base zone p q = seen (sight file base zone p q 0 0)

pub returns-in_err-ends : goal.returns-in_err-ends
unfolding on_path
returns-in_err-ends c s first second h n m e d =
    let said : said_by c.from_residual.result ≡ ends_means c.look_up.result (ask c.args.file.now) = grind (arith, common_steps) in
    said ∙ c.look_up.ensures _ s first second h n m e d ask

pub returns-in_err-seen : goal.returns-in_err-seen
unfolding on_path
returns-in_err-seen c s first second h n m e d =
    let ends : c.look_up.result ≡ Ok c.in_ok-ends.ends = grind (arith, common_steps) in
    let said : said_by c.from_residual-in_err-seen.result ≡ seen (path_outcome_of c.sight.result) = grind (arith, common_steps) in
    said ∙ ap seen c.sight.ensures ∙ rw ends at (c.look_up.ensures _ s first second h n m e d ask)

pub returns : goal.returns
unfolding on_path
returns c s first second h n m e d =
    let ends : c.look_up.result ≡ Ok c.in_ok-ends.ends = grind (arith, common_steps) in
    ap seen c.in_ok-seen.ensures ∙ rw ends at (c.look_up.ensures _ s first second h n m e d ask)
