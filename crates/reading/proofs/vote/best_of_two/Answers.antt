-- `best_of_two` meets its contract: two sums of one code are ranked as one, others by themselves. Assumes nothing.
use native.Mathlib.Omega.{arith}
use Rattle.reading.proofs.Laws.Vote.{top_two_same, top_two}
use Rattle.reading.proofs.vote.best_of_two.Goals as goal

pub rank-requires : goal.rank-requires
rank-requires c =
    let pre = c.requires in
    rw c.with.ensures (pre.coded.0, omega (arith, pre.light))

pub returns-then-a-b : goal.returns-then-a-b
returns-then-a-b c =
    let pre = c.requires in
    rw (c.rank.ensures, c.with.ensures) (top_two_same _ _ pre.coded.0 c.if-a-b.true)

pub returns : goal.returns
returns c =
    let pre = c.requires in
    rw (c.max.ensures, c.rank-3.ensures, c.rank-2.ensures)
    (top_two _ _ pre.coded.0 pre.coded.1.0 c.if-a-b.false)
