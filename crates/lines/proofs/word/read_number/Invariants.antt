-- `read_number` meets its contract. The loop's invariant: what the rest of the digits will come to, after the value so far, is what all after the
-- first come to, and the value has room for them. Assumes nothing.
use Rattle.std.proofs.Common.{◌+◌, ◌-◌}
use Rattle.lines.specs.Spell.{digit, value_after}
use Rattle.lines.proofs.Laws.Loop.{Gathers}
use Rattle.lines.proofs.word.read_number.Given as goal

abbrev pub invariant-loop-at : goal.invariant-loop-at
invariant-loop-at l = Gathers digit 10 value_after l.s 7 l.first (l.from + 1) l.more l.value l.at (l.from + 1 + l.more - l.at)
