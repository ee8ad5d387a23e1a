-- `file_name` meets its contract: what `are_named` says decides between the refusal and the name, whose digits fit a byte since the zone
-- is at most 60. Assumes nothing.
use mathlib.Core.Path.{sym, ◌∙◌}
use mathlib.Core.Path.{◌≡◌}
use mathlib.Core.Bool.{true}
use native.Mathlib.Omega.{arith}
use Rattle.ground.specs.Boundary.{named}
use Rattle.ground.proofs.Laws.Ground.{named_is}
use Rattle.ground.proofs.name.file_name.Goals.{Else-not-are_named}
use Rattle.ground.proofs.name.file_name.Goals as goal

pub returns-then-not-are_named : goal.returns-then-not-are_named
returns-then-not-are_named c = simp (sym c.are_named.ensures ∙ c.if-not-are_named.true)

are-named : (c : Else-not-are_named) → named c.args.base c.args.zone ≡ true
are-named c = (sym c.are_named.ensures ∙ c.if-not-are_named.false)

pub letter_of-requires : goal.letter_of-requires
letter_of-requires c = (named_is _ _ (are-named c)).most

pub overflow_cast-result : goal.overflow_cast-result
overflow_cast-result c = omega (arith, named_is _ _ (are-named c.before))

pub overflow_add-result : goal.overflow_add-result
overflow_add-result c = omega (arith, named_is _ _ (are-named c.before))

pub overflow_cast-result-2 : goal.overflow_cast-result-2
overflow_cast-result-2 c = omega (arith, named_is _ _ (are-named c.before))

pub overflow_add-result-2 : goal.overflow_add-result-2
overflow_add-result-2 c = omega (arith, named_is _ _ (are-named c.before))

pub returns : goal.returns
returns c = simp (are-named c.before, c.letter_of.ensures)
