-- `walk` meets its contract. The loop's invariant: the samples before i were read, and are in their places. Assumes nothing.
use mathlib.Core.Path.{◌≡◌}
use Rattle.ground.specs.Outcome.{given}
use Rattle.reading.specs.Reading.{point_in}
use Rattle.path.specs.Path.{sample}
use Rattle.profile.specs.Profile.{link_of, up_to}
use Rattle.profile.proofs.samples.walk.Given as goal

abbrev pub invariant-loop-i : goal.invariant-loop-i
invariant-loop-i l = up_to (λ k. point_in l.file l.terrain (sample l.path k)) l.path.n l.i ≡ given (link_of l.path l.samples).profile
