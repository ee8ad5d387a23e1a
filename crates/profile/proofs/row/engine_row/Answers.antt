-- `engine_row` meets its contract: the row of a sample of the link that was given. Assumes nothing.
use native.Mathlib.Omega.{arith}
use Rattle.profile.specs.Row.{row}
use Rattle.profile.proofs.Laws.Link.{sampled_is}
use Rattle.profile.proofs.Laws.Refused.{refused_is}
use Rattle.profile.proofs.row.engine_row.Goals as goal

pub returns-in_err-path : goal.returns-in_err-path
unfolding row
returns-in_err-path c = simp (refused_is c.from_residual.ensures.1, ← (rw c.sample-asked.ensures at c.in_err-path.ensures))

pub at-requires : goal.at-requires
at-requires c =
    let l = sampled_is (rw c.sample-asked.ensures at c.in_ok-path.ensures) in
    omega (arith, l.asked.i, l.sound.path.most)

pub returns : goal.returns
unfolding row
returns c =
    let metres = rw c.at.ensures at c.row_at.ensures.metres in
    simp (← (rw c.sample-asked.ensures at c.in_ok-path.ensures), ← metres, ← c.row_at.ensures.way)
