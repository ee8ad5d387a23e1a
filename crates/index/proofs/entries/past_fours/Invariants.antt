-- `past_fours` meets its contract: four positions that make the number 0 each hold 0. Assumes nothing.
use Rattle.std.proofs.Common.{◌-◌}
use Rattle.index.specs.Inside.{Skipped}
use Rattle.index.proofs.entries.past_fours.Given as goal

abbrev pub invariant-loop-n : goal.invariant-loop-n
invariant-loop-n l = Skipped l.file l.from l.end l.n

abbrev pub decreases-loop-n : goal.decreases-loop-n
decreases-loop-n l = l.end - l.n
