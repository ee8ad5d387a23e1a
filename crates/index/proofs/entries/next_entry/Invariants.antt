-- `next_entry` meets its contract: past the fours each position is looked at, up to the first that does not hold 0. Assumes nothing.
use Rattle.std.proofs.Common.{◌-◌}
use Rattle.index.specs.Inside.{Skipped}
use Rattle.index.proofs.entries.next_entry.Given as goal

abbrev pub invariant-loop-n : goal.invariant-loop-n
invariant-loop-n l = Skipped l.file l.from l.end l.n

abbrev pub decreases-loop-n : goal.decreases-loop-n
decreases-loop-n l = l.end - l.n
