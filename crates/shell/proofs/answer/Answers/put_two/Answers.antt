-- `put_two` meets its contract: a word and a number, then a space and a number. Assumes nothing.
use native.Mathlib.Omega.{arith}
use lib.ListN.{length-append}
use Rattle.shell.proofs.Laws.Answer.{decimal_short}
use Rattle.shell.proofs.answer.Answers.put_two.Goals as goal

pub put_one-requires-2 : goal.put_one-requires-2
put_one-requires-2 c =
    omega (arith, simp length-append at c.put_one.ensures.place, decimal_short c.args.a)
