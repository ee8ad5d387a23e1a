-- `open_on` meets its contract: what `highest_passes` says decides between the refusal and the file. Assumes nothing.
use mathlib.Core.Path.{sym, ◌∙◌}
use native.Mathlib.Omega.{arith}
use Rattle.index.proofs.Laws.Bytes.{whole_is}
use Rattle.index.proofs.Laws.Passes.{highest_is}
use Rattle.terrain.specs.Inside.{opened_on}
use Rattle.terrain.proofs.check.open_on.Goals as goal

pub nth-requires : goal.nth-requires
nth-requires c = omega (arith, whole_is _ c.requires)

pub returns-then-not-highest_passes : goal.returns-then-not-highest_passes
unfolding opened_on
returns-then-not-highest_passes c = simp (sym c.highest_passes.ensures ∙ c.if-not-highest_passes.true)

pub overflow_sub-result : goal.overflow_sub-result
overflow_sub-result c =
    let range = (highest_is _).0 (sym c.highest_passes.ensures ∙ c.if-not-highest_passes.false) in
    omega (arith, range.least, c.from-highest.ensures, c.nth.ensures)

pub returns : goal.returns
unfolding opened_on
returns c = simp ((sym c.highest_passes.ensures ∙ c.if-not-highest_passes.false), c.from-highest.ensures, c.nth.ensures)
