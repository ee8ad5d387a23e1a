-- `entry_before` meets its contract: what `entry_of` says, where the test holds. Assumes nothing.
use Rattle.terrain.proofs.record.entry_before.Goals as goal

pub overflow_sub-n : goal.overflow_sub-n
overflow_sub-n c = c.requires.1 c.if-allowed.true

pub returns-then-allowed : goal.returns-then-allowed
returns-then-allowed c = rw c.if-allowed.true c.entry_of.ensures

pub returns-else-allowed : goal.returns-else-allowed
returns-else-allowed c = rw c.if-allowed.false
