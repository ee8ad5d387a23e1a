-- `all_pass` meets its contract. Both loops' invariant: the positions before n have been walked over. Assumes nothing.
use Rattle.std.proofs.Common.{◌-◌, ◌≤◌}
use Rattle.index.specs.Inside.{Walked}
use Rattle.index.proofs.entries.all_pass.Given as goal

abbrev pub invariant-loop-n : goal.invariant-loop-n
invariant-loop-n l = Walked l.file l.highest l.marks l.n × (l.n ≤ l.end)

abbrev pub decreases-loop-n : goal.decreases-loop-n
decreases-loop-n l = l.end - l.n

abbrev pub invariant-loop-n-2 : goal.invariant-loop-n-2
invariant-loop-n-2 l = Walked l.file l.highest l.marks l.n × (l.n ≤ l.end)

abbrev pub decreases-loop-n-2 : goal.decreases-loop-n-2
decreases-loop-n-2 l = l.end - l.n
