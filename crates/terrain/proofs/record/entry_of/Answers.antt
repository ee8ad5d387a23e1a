-- `entry_of` meets its contract: rectangle 0 has no entry, and that of another is its position's number. Assumes nothing.
use borrow.Author.Rules.{rules}
use borrow.Author.Tests.{eq-eqb, ne_eqb}
use Rattle.terrain.specs.Record.{entry}
use Rattle.terrain.proofs.record.entry_of.Goals as goal

pub returns-then-n-eq0 : goal.returns-then-n-eq0
unfolding entry
returns-then-n-eq0 c = rw (eq-eqb c.args.n 0 c.if-n-eq0.true)

pub nth-requires : goal.nth-requires
nth-requires c = search rules

pub returns : goal.returns
unfolding entry
returns c = rw (ne_eqb c.args.n 0 c.if-n-eq0.false, c.from.ensures, c.nth.ensures)
