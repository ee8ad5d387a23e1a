-- `read_along` meets its contract: what `lack_height` says decides between the refusal and the reading. Assumes nothing.
use mathlib.Core.Path.{◌≡◌, refl}
use mathlib.Core.Bool.{or-false}
use native.Mathlib.Omega.{arith}
use Rattle.reading.specs.Corner.{any_lacks_height}
use Rattle.reading.specs.Reading.{read_corners}
use Rattle.reading.specs.Inside.{first, second, corners_along}
use Rattle.reading.proofs.Laws.Edge.{between_most, height_along}
use Rattle.reading.proofs.Laws.Vote.{along_vote}
use Rattle.reading.proofs.point.read_along.Goals.{After-lack_height}
use Rattle.reading.proofs.point.read_along.Goals as goal

-- what `lack_height` says is that a corner lacks a height
lacks : (c : After-lack_height) → any_lacks_height (corners_along c.args.edge c.args.f) ≡ c.lack_height.result
unfolding any_lacks_height
lacks c =
    let e = c.elevations-elevations.ensures in
    rw (c.lack_height.ensures, e.first, e.second) (simp or-false)

pub returns-then-lack_height : goal.returns-then-lack_height
unfolding read_corners
returns-then-lack_height c = rw (lacks (goal.at.returns-then-lack_height c).After-lack_height, c.if-lack_height.true) refl

pub overflow_mul-result : goal.overflow_mul-result
overflow_mul-result c =
    let e = c.elevations-elevations.ensures in
    let h = c.elevations-elevations.result.0 in
    omega (arith, c.along.ensures, between_most c.args.f (first h) (second h) 8191 (omega (arith, c.requires)) (omega (arith, e.first)) (omega (arith, e.second)))

pub overflow_cast-result : goal.overflow_cast-result
overflow_cast-result c = omega (arith, c.nearer.ensures.within)

pub returns : goal.returns
unfolding read_corners
returns c =
    let e = c.elevations-elevations.ensures in
    let code = along_vote _ _ (rw (c.first_code.ensures, c.second_code.ensures) at c.nearer.ensures) in
    rw (lacks (goal.at.returns c).After-lack_height, c.if-lack_height.false, height_along, ← code, ← e.first, ← e.second, ← c.along.ensures) refl
