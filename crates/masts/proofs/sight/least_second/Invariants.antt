-- `least_second` meets its contract. The loop's invariant: `mast` is the least with which the samples passed are clear; hence it is no
-- taller than a mast that clears them all, whose bound holds. Assumes nothing.
use Prim.Native.Nat.{◌≤◌}
use lib.ListN.{get_or}
use Rattle.masts.proofs.Laws.Masts.{Least}
use Rattle.masts.proofs.sight.least_second.Given as goal

abbrev pub invariant-loop-i : goal.invariant-loop-i
invariant-loop-i l = (l.i ≤ l.line.n) × Least (λ k. get_or l.needs k 0) l.line.n l.line.from l.line.to l.i l.mast
