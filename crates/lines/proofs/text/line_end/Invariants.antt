-- `line_end` meets its contract. The loop's invariant: the line from here on ends where the whole does. Assumes nothing.
use Rattle.std.proofs.Common.{◌≡◌, ◌+◌, ◌*◌, length}
use Rattle.lines.specs.Text.{line_at}
use Rattle.lines.proofs.text.line_end.Given as goal

abbrev pub invariant-loop-i : goal.invariant-loop-i
invariant-loop-i l = l.from + 4 * l.i + length (line_at l.s (l.from + 4 * l.i)) ≡ l.from + length (line_at l.s l.from)
