-- `passes` meets its contract: the definition's tests, in its order; M is at most the record count when it bounds the marks. Assumes nothing.
use mathlib.Core.Path.{sym, ◌∙◌}
use mathlib.Core.Bool.{and-false}
use Rattle.std.proofs.Common.{arith}
use Rattle.index.specs.Index.{index_passes}
use Rattle.index.proofs.Laws.Bytes.{whole_is}
use Rattle.index.proofs.Laws.Passes.{highest_is}
use Rattle.index.proofs.passes.Goals as goal

pub all_pass-requires : goal.all_pass-requires
all_pass-requires c =
    let pre = c.requires in
    omega (arith, whole_is _ pre.0, (highest_is _).0 pre.1.0)

pub returns-then-not-all_pass : goal.returns-then-not-all_pass
unfolding index_passes
returns-then-not-all_pass c =
    let pre = c.requires in
    simp (← pre.1.1.0, (sym c.all_pass.ensures ∙ c.if-not-all_pass.true), and-false)

pub rest_is_empty-requires : goal.rest_is_empty-requires
rest_is_empty-requires c = omega (arith, whole_is _ c.requires.0)

pub returns : goal.returns
unfolding index_passes
returns c =
    let pre = c.requires in
    simp (pre.1.0, ← pre.1.1.0, (sym c.all_pass.ensures ∙ c.if-not-all_pass.false), c.rest_is_empty.ensures)
