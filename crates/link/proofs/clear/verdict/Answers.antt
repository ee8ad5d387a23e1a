-- `verdict` meets its contract: what `sight` says of the path, without N. Assumes nothing.
use mathlib.Core.Path.{◌≡◌}
use Prim.Native.Nat.{ℕ}
use Rattle.ground.specs.Outcome.{Outcome, given, refused, ◌and_then◌}
use Rattle.path.specs.Path.{ask_masts}
use Rattle.profile.specs.Profile.{Link, linked}
use Rattle.link.specs.Clear.{clear, sight, verdict}
use Rattle.link.specs.declared.clear.Seen.{Seen}
use Rattle.profile.proofs.Laws.Refused.{refused_is}
use Rattle.link.proofs.clear.verdict.Goals as goal

-- the verdict is what is seen along the path, without N
same : (o : Outcome Link) (a b : ℕ) (s : Outcome Seen) → s ≡ (o and_then λ l. given (record { n = l.path.n; clear = clear l a b }))
    → (o and_then λ l. given (clear l a b)) ≡ (s and_then λ seen. given seen.clear)
same (given l) a b s e = rw e
same (refused number place) a b s e = rw e

pub returns-in_err-seen : goal.returns-in_err-seen
unfolding sight verdict
returns-in_err-seen c =
    let a = c.args in
    simp (refused_is c.from_residual.ensures.1, same (linked a.file.now a.base a.zone (ask_masts a.first a.second a.a a.b)) a.a a.b _ c.in_err-seen.ensures)

pub returns : goal.returns
unfolding sight verdict
returns c =
    let a = c.args in
    simp (same (linked a.file.now a.base a.zone (ask_masts a.first a.second a.a a.b)) a.a a.b _ c.in_ok-seen.ensures)
