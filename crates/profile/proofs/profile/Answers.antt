-- `profile` meets its contract: the samples that were read are in their places, and beside a refusal all is 0. Assumes nothing.
use Rattle.profile.specs.Profile.{zeros, profile}
use Rattle.profile.proofs.profile.Goals as goal

pub returns-in-Ok : goal.returns-in-Ok
unfolding profile
returns-in-Ok c = simp (← (rw (c.in-Ok.is, c.path.ensures) at c.read_samples.ensures))

pub returns-in-Err : goal.returns-in-Err
unfolding profile zeros
returns-in-Err c = simp (← (rw (c.in-Err.is, c.path.ensures) at c.read_samples.ensures), c.number.ensures)
