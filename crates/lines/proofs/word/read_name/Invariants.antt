-- `read_name` meets its contract. The loop's invariant: what the rest of the characters will come to, after the key so far, is what all after the
-- first come to, and the key has room for them. Assumes nothing.
use Rattle.std.proofs.Common.{◌+◌, ◌-◌}
use Rattle.lines.specs.Spell.{in_name}
use Rattle.lines.specs.Key.{key_after}
use Rattle.lines.proofs.Laws.Loop.{Gathers}
use Rattle.lines.proofs.word.read_name.Given as goal

abbrev pub invariant-loop-at : goal.invariant-loop-at
invariant-loop-at l = Gathers in_name 38 key_after l.s 12 l.first (l.from + 1) 11 l.key l.at (l.from + 1 + 11 - l.at)
