-- `Ground::locate` meets its contract: what `holds` says decides between the refusal and the place, and a point that the ground holds
-- lies east and north of its corner. Assumes nothing.
use mathlib.Core.Path.{sym, ◌∙◌}
use mathlib.Core.Path.{◌≡◌}
use mathlib.Core.Bool.{true}
use Prim.Native.Nat.{ℕ, ◌-◌, ◌/◌, ◌%◌}
use native.Mathlib.Omega.{arith}
use Rattle.ground.specs.Ground.{holds}
use Rattle.ground.specs.Place.{place_of}
use Rattle.ground.proofs.Laws.Ground.{held}
use Rattle.ground.proofs.Ground.locate.Goals.{Else-not-holds}
use Rattle.ground.proofs.Ground.locate.Goals as goal

pub returns-then-not-holds : goal.returns-then-not-holds
returns-then-not-holds c = simp (sym c.holds.ensures ∙ c.if-not-holds.true)

-- past the test
on : (c : Else-not-holds) → holds c.args.self c.args.point ≡ true
on c = (sym c.holds.ensures ∙ c.if-not-holds.false)

pub overflow_sub-east : goal.overflow_sub-east
overflow_sub-east c = (held _ _ (on c.before)).west

pub overflow_sub-north : goal.overflow_sub-north
overflow_sub-north c =
    rw c.in_units-y.ensures (held _ _ (on c.before.before.before.before.before)).south

pub at-requires : goal.at-requires
at-requires c = rw (c.past_unit.ensures, c.past_unit-2.ensures) (omega arith)

pub returns : goal.returns
unfolding place_of
returns c =
    let e : ℕ = c.args.point.easting.0 in
    let west = (held _ _ (on c.before.before.before.before.before.before.before.before.before.before)).west in
    let whole : (e - 125000) / 500 ≡ e / 500 - 250 = omega (arith, west) in
    let rest : (e - 125000) % 500 ≡ e % 500 = omega (arith, west) in
    simp (
      on c.before.before.before.before.before.before.before.before.before.before,
      c.at.ensures,
      c.in_units.ensures,
      c.in_units-y.ensures,
      c.past_unit.ensures,
      c.past_unit-2.ensures,
      whole,
      rest,
    )
