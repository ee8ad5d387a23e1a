-- `base_at` meets its contract, by the laws of the base of y. Assumes nothing.
use mathlib.Core.Path.{sym}
use native.Mathlib.Omega.{arith}
use Rattle.ground.proofs.Laws.Boundary.{base_none, base_next, base_own}
use Rattle.ground.proofs.table.base_at.Goals as goal

pub returns-then-y-ge-END : goal.returns-then-y-ge-END
returns-then-y-ge-END c = sym (base_none _ c.if-y-ge-END.true)

pub returns-then-file-y : goal.returns-then-file-y
returns-then-file-y c =
    let file = c.boundaries-file.ensures in
    sym (base_next _ (omega arith) (omega (arith, rw file at c.if-file-y.true)))

pub returns-else-file-y : goal.returns-else-file-y
returns-else-file-y c =
    let file = c.boundaries-file.ensures in
    sym (base_own _ (omega arith) (omega (arith, rw file at c.if-file-y.false)))
