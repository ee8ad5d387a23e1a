-- `read_samples` meets its contract: the check of the file, then the path, then its samples, each by its own function. Assumes nothing.
use mathlib.Core.Path.{sym}
use Rattle.terrain.specs.Check.{Gave}
use Rattle.profile.specs.Profile.{linked}
use Rattle.path.proofs.Laws.Path.{path_is, path_sound}
use Rattle.terrain.proofs.Laws.Checked.{north_most}
use Rattle.profile.proofs.Laws.Refused.{refused_is}
use Rattle.profile.proofs.samples.read_samples.Goals.{In_ok-terrain}
use Rattle.profile.proofs.samples.read_samples.Goals as goal

-- the file that passed
gave : (c : In_ok-terrain) → Gave c.args.file.now c.in_ok-terrain.terrain
gave c = record { base = _; zone = _; gave = sym c.in_ok-terrain.ensures }

pub returns-in_err-terrain : goal.returns-in_err-terrain
unfolding linked
returns-in_err-terrain c = simp (refused_is c.from_residual.ensures.1, ← c.in_err-terrain.ensures)

pub find-requires : goal.find-requires
find-requires c = north_most (gave (goal.at.find-requires c).In_ok-terrain)

pub returns-in_err-path : goal.returns-in_err-path
unfolding linked
returns-in_err-path c = simp (refused_is c.from_residual-in_err-path.ensures.1, ← c.in_ok-terrain.ensures, ← c.in_err-path.ensures)

pub walk-requires : goal.walk-requires
walk-requires c =
    let file = gave (goal.at.walk-requires c).In_ok-terrain in
    (file, (path_sound (north_most file) (path_is _ _ _ (sym c.in_ok-path.ensures)), c.requires))

pub returns-in_err-walk : goal.returns-in_err-walk
unfolding linked
returns-in_err-walk c =
    simp (refused_is c.from_residual-in_err-walk.ensures.1, ← c.in_ok-terrain.ensures, ← c.in_ok-path.ensures, ← c.in_err-walk.ensures)

pub returns : goal.returns
unfolding linked
returns c = simp (← c.in_ok-terrain.ensures, ← c.in_ok-path.ensures, ← c.in_ok-walk.ensures)
