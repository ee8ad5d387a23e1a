-- `after_word` meets its contract. The loop's invariant: where the rest of the word ends, from here on, there the whole does, and the bytes before here
-- stand among those given. Assumes nothing.
use Rattle.std.proofs.Common.{◌≡◌, ◌+◌, ◌<◌, ◌≤◌, length, drop}
use Rattle.lines.specs.Line.{text}
use Rattle.lines.specs.Inside.{text_from}
use Rattle.lines.proofs.text.after_word.Given as goal

abbrev pub invariant-loop-i : goal.invariant-loop-i
invariant-loop-i l = record {
  same : text_from (l.from + l.i) (text (drop l.i l.word) (drop (l.from + l.i) l.s)) ≡ text_from l.from (text l.word (drop l.from l.s));
  among : 0 < l.i → l.from + l.i ≤ length l.s;
}
