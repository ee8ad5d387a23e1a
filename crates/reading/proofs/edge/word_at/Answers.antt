-- `word_at` meets its contract: the word of a corner that weighs in is a word of the record. Assumes nothing.
use native.Mathlib.Omega.{arith}
use borrow.Author.Rules.{rules}
use borrow.Author.Tests.{eq-eqb, ne_eqb}
use Rattle.reading.proofs.edge.word_at.Goals as goal

pub returns-then-weight-eq0 : goal.returns-then-weight-eq0
returns-then-weight-eq0 c = (rw (eq-eqb c.args.weight 0 (omega arith)), omega arith)

pub nth-requires : goal.nth-requires
nth-requires c = (search rules, c.requires.1 (omega arith))

pub returns : goal.returns
returns c = (rw (ne_eqb c.args.weight 0 (omega arith)) c.nth.ensures, omega arith)
