-- `past_records` meets its contract. The loop's invariant: the positions before n have been walked over. Assumes nothing.
use Rattle.std.proofs.Common.{◌-◌, ◌≤◌}
use Rattle.index.specs.Inside.{Walked}
use Rattle.index.proofs.entries.past_records.Given as goal

abbrev pub invariant-loop-n : goal.invariant-loop-n
invariant-loop-n l = Walked l.file l.highest l.marks l.n × ((l.from ≤ l.n) × (l.n ≤ l.end))

abbrev pub decreases-loop-n : goal.decreases-loop-n
decreases-loop-n l = l.end - l.n
