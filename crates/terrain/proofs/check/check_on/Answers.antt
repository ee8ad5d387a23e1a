-- `check_on` meets its contract: what `passes` says decides between the refusal and the file. A ground that was opened has 28 or 29 rows. Assumes nothing.
use mathlib.Core.Path.{sym, ◌∙◌}
use native.Mathlib.Omega.{arith}
use Rattle.index.proofs.Laws.Bytes.{is_whole}
use Rattle.index.proofs.Laws.Passes.{highest_is}
use Rattle.terrain.specs.Inside.{checked_on}
use Rattle.terrain.proofs.Laws.Checked.{opens_is}
use Rattle.terrain.proofs.check.check_on.Goals as goal

pub rows-requires : goal.rows-requires
rows-requires c = (opens_is c.requires).opened.rising

pub passes-requires : goal.passes-requires
passes-requires c =
    let o = opens_is c.requires in
    (is_whole _ o.whole, ((highest_is _).1 o.range, (o.highest, rw c.rows.ensures (omega (arith, o.opened.rows)))))

pub returns-then-not-passes : goal.returns-then-not-passes
unfolding checked_on
returns-then-not-passes c = simp (← c.rows.ensures, (sym c.passes.ensures ∙ c.if-not-passes.true))

pub returns : goal.returns
unfolding checked_on
returns c = simp (← c.rows.ensures, (sym c.passes.ensures ∙ c.if-not-passes.false))
