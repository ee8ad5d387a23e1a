-- `sight` meets its contract: N of the link that was given, and what `is_clear` says of it. Assumes nothing.
use Rattle.link.specs.Clear.{sight}
use Rattle.profile.proofs.Laws.Link.{sampled_is}
use Rattle.profile.proofs.Laws.Refused.{refused_is}
use Rattle.link.proofs.clear.sight.Goals as goal

pub returns-in_err-path : goal.returns-in_err-path
unfolding sight
returns-in_err-path c = simp (refused_is c.from_residual.ensures.1, ← (rw c.masts-asked.ensures at c.in_err-path.ensures))

pub invariant_of-link : goal.invariant_of-link
invariant_of-link c = record { sound = (sampled_is (rw c.masts-asked.ensures at c.in_ok-path.ensures)).sound }

pub is_clear-requires : goal.is_clear-requires
is_clear-requires c =
    let l = sampled_is (rw c.masts-asked.ensures at c.in_ok-path.ensures) in
    (l.asked.a, l.asked.b)

pub returns : goal.returns
unfolding sight
returns c = simp (← (rw c.masts-asked.ensures at c.in_ok-path.ensures), ← c.is_clear.ensures)
