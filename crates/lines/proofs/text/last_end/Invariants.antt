-- `last_end` meets its contract. The loop's invariant: the line from here on ends where the whole does, and here is not past the end of the bytes, or
-- where the loop began. Assumes nothing.
use Rattle.std.proofs.Common.{◌≡◌, ◌+◌, ◌≤◌, max, length}
use Rattle.lines.specs.Text.{line_at}
use Rattle.lines.proofs.text.last_end.Given as goal

abbrev pub invariant-loop-at : goal.invariant-loop-at
invariant-loop-at l = record {
  ends : l.at + length (line_at l.s l.at) ≡ l.from + length (line_at l.s l.from);
  within : l.at ≤ max (length l.s) l.from;
}
