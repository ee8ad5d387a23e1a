-- `find_needs` meets its contract. The loop's invariant: the needs of the samples passed are in their places. Assumes nothing.
use Prim.Native.Nat.{◌≤◌}
use Rattle.profile.specs.Profile.{link_of}
use Rattle.link.specs.Clear.{need}
use Rattle.plan.specs.Inside.{Needed}
use Rattle.plan.proofs.find_needs.Given as goal

abbrev pub invariant-loop-i : goal.invariant-loop-i
invariant-loop-i l = (l.i ≤ l.link.path.n) × Needed (need (link_of l.link.path l.link.samples.now)) l.i l.needs
