-- `Ground::open` meets its contract: a base that is named is four times a number below 21, so its boundaries stand in the table.
-- Assumes nothing.
use mathlib.Core.Path.{sym, ◌∙◌}
use mathlib.Core.Path.{◌≡◌}
use mathlib.Core.Bool.{true}
use Prim.Native.Nat.{◌*◌, ◌/◌, ◌<◌}
use Rattle.ground.specs.Boundary.{named}
use Rattle.ground.proofs.Laws.Boundary.{base_at_lem}
use Rattle.ground.proofs.Laws.Ground.{named_is}
use Rattle.ground.proofs.Ground.open.Goals.{Else-not-are_named}
use Rattle.ground.proofs.Ground.open.Goals as goal

pub returns-then-not-are_named : goal.returns-then-not-are_named
returns-then-not-are_named c = simp (sym c.are_named.ensures ∙ c.if-not-are_named.true)

-- past the test
are-named : (c : Else-not-are_named) → named c.args.base c.args.zone ≡ true
are-named c = (sym c.are_named.ensures ∙ c.if-not-are_named.false)

fourth : (c : Else-not-are_named) → (c.args.base / 4 < 21) × (4 * (c.args.base / 4) ≡ c.args.base)
fourth c = base_at_lem _ (named_is _ _ (are-named c)).base

pub boundaries-requires : goal.boundaries-requires
boundaries-requires c = (fourth c).0

pub returns : goal.returns
returns c =
    simp (c.boundaries.ensures, (fourth c.before.before.before).1, are-named c.before.before.before)
