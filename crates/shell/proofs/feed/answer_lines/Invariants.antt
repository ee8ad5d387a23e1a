-- `answer_lines` meets its contract. The loop's invariant: the lines before the place are answered. The measure is what is left of the input. Assumes nothing.
use Prim.Native.Nat.{◌-◌}
use lib.ListN.{length}
use Rattle.shell.proofs.Laws.Done.{Done}
use Rattle.shell.proofs.feed.answer_lines.Given as goal

abbrev pub invariant-loop-answers : goal.invariant-loop-answers
invariant-loop-answers l = Done l.input l.from l.initial.shell l.file l.initial.answers l.answers l.at l.shell

abbrev pub decreases-loop-answers : goal.decreases-loop-answers
decreases-loop-answers l = length l.input - l.at
