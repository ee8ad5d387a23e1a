-- `read_between` meets its contract: what `lack_height` says of the two edges decides between the refusal and the reading. Assumes nothing.
use mathlib.Core.Path.{◌≡◌, refl}
use mathlib.Core.Bool.{◌||◌}
use Prim.Native.Nat.{ℕ, ◌≤◌}
use native.Mathlib.Omega.{arith}
use Rattle.terrain.specs.Word.{elevation_of}
use Rattle.reading.specs.Corner.{any_lacks_height}
use Rattle.reading.specs.Reading.{read_corners}
use Rattle.reading.specs.Inside.{first, second, between, corners_around}
use Rattle.reading.specs.declared.edge.Edge.{Edge}
use Rattle.reading.proofs.Laws.Edge.{between_most, height_between}
use Rattle.reading.proofs.Laws.Vote.{vote_is}
use Rattle.reading.proofs.point.read_between.Goals.{After-along-2, After-lack_height-2}
use Rattle.reading.proofs.point.read_between.Goals as goal

-- what `lack_height` says of the two edges is that a corner lacks a height
lacks : (c : After-lack_height-2) → (
    let a = c.args in
    any_lacks_height (corners_around a.south a.north a.place.weights) ≡ (c.lack_height.result || c.lack_height-2.result)
    )
unfolding any_lacks_height
lacks c =
    let n = c.elevations-high.ensures in
    let s = c.elevations-low.ensures in
    rw (c.lack_height.ensures, c.lack_height-2.ensures, n.first, n.second, s.first, s.second)

pub returns-then-lack_height : goal.returns-then-lack_height
unfolding read_corners
returns-then-lack_height c = rw (lacks (goal.at.returns-then-lack_height c).After-lack_height-2, c.if-lack_height.true) refl

-- the height along each edge
along : (c : After-along-2) → (
    let a = c.args in
    let at : Edge → ℕ = λ e. between a.place.fx.0 (elevation_of (first e.0)) (elevation_of (second e.0)) in
    (c.along.result ≡ at a.south) × (c.along-2.result ≡ at a.north)
    )
along c =
    let n = c.elevations-high.ensures in
    let s = c.elevations-low.ensures in
    (rw (c.along.ensures, s.first, s.second), rw (c.along-2.ensures, n.first, n.second))

pub between-requires : goal.between-requires
between-requires c =
    let m = c.requires in
    let p = c.args.place in
    let is = along c in
    let fits : (n : ℕ) → between p.fx.0 (elevation_of (first n)) (elevation_of (second n)) ≤ 4095500 =
    λ n. between_most p.fx.0 (elevation_of (first n)) (elevation_of (second n)) 8191 (omega (arith, m.x)) (omega arith) (omega arith) in
    rw (is.0, is.1)
    (omega (arith, m.y), between_most p.fy.0 _ _ 4095500 (omega (arith, m.y)) (fits c.args.south.0) (fits c.args.north.0))

pub vote-requires : goal.vote-requires
vote-requires c = c.requires

pub overflow_cast-result : goal.overflow_cast-result
overflow_cast-result c =
    omega (arith, c.vote.ensures, (vote_is (corners_around c.args.south c.args.north c.args.place.weights)).within)

pub returns : goal.returns
unfolding read_corners
returns c =
    let is = along (goal.at.returns c).After-along-2 in
    rw (lacks (goal.at.returns c).After-lack_height-2, c.if-lack_height.false, height_between _ _ _ c.requires, ← is.0, ← is.1, ← c.between.ensures, ← c.vote.ensures) refl
