-- `find` meets its contract: each test that it leaves by is a line of the order of checks. Assumes nothing.
use mathlib.Core.Path.{◌≡◌, sym, ◌∙◌}
use mathlib.Core.Bool.{true}
use Rattle.ground.specs.Outcome.{given, unless}
use Rattle.ground.specs.Ground.{holds}
use Rattle.path.specs.Path.{path_on}
use Rattle.path.specs.declared.Path.{Path}
use Rattle.path.proofs.Laws.Path.{length_is, held_near}
use Rattle.path.proofs.find.Goals.{After-over_asked, Else-not-holds, Else-not-holds-2}
use Rattle.path.proofs.find.Goals as goal

pub returns-then-not-holds : goal.returns-then-not-holds
unfolding path_on
returns-then-not-holds c = simp (sym c.holds.ensures ∙ c.if-not-holds.true)

-- the ground holds the ends
first : (c : Else-not-holds) → (
    let a = c.args in
    holds a.ground a.asked.first ≡ true
    )
first c = (sym c.holds.ensures ∙ c.if-not-holds.false)

second : (c : Else-not-holds-2) → (
    let a = c.args in
    holds a.ground a.asked.second ≡ true
    )
second c = (sym c.holds-2.ensures ∙ c.if-not-holds-2.false)

pub returns-then-not-holds-2 : goal.returns-then-not-holds-2
unfolding path_on
returns-then-not-holds-2 c = simp (first c.before.before, (sym c.holds-2.ensures ∙ c.if-not-holds-2.true))

pub squared-q-requires : goal.squared-q-requires
squared-q-requires c =
    let north = c.requires in
    (held_near _ _ north (first c.before.before), held_near _ _ north (second c))

pub returns-then-q : goal.returns-then-q
unfolding path_on
returns-then-q c =
    simp (first c.before.before.before.before, second c.before.before, ← c.squared-q.ensures, c.if-q.true)

pub steps-n-requires : goal.steps-n-requires
steps-n-requires c = (length_is _ c.if-q.false).1

-- past all but the last test, which decides
last-test : (c : After-over_asked) → (
    let a = c.args in
    let w : Path = record { first = a.asked.first; second = a.asked.second; q = c.squared-q.result; n = c.steps-n.result } in
    path_on a.ground a.asked ≡ unless c.over_asked.result 8 (given w)
    )
unfolding path_on
last-test c =
    simp (
      first c.before.before.before.before.before.before,
      second c.before.before.before.before,
      ← c.squared-q.ensures,
      c.if-q.false,
      ← c.steps-n.ensures,
      ← c.over_asked.ensures,
    )

pub returns-then-over_asked : goal.returns-then-over_asked
returns-then-over_asked c = simp (last-test c.before, c.if-over_asked.true)

pub returns : goal.returns
returns c = simp (last-test c.before, c.if-over_asked.false)
