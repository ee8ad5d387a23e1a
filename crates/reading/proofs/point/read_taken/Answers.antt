-- `read_taken` meets its contract: the corners that weigh in are words of the record, and the reading along its edge or between its edges is the reading from
-- these corners. Assumes nothing.
use mathlib.Core.Path.{◌≡◌, sym, ◌∙◌, ap}
use mathlib.Core.Logic.{◌⊎◌, ⊎_elim}
use Prim.Native.Nat.{◌+◌, ◌<◌}
use native.Mathlib.Omega.{arith}
use lib.Dec.{eqb}
use borrow.Author.Tests.{eqb-true, eqb-false, eq-eqb}
use Rattle.ground.specs.Place.{word}
use Rattle.ground.proofs.Laws.Test.{either, neither}
use Rattle.reading.specs.Reading.{read_corners, read_taken}
use Rattle.reading.proofs.Laws.Edge.{word_in, line_in, edges_in, all_weigh_lem, around_is, along_reads}
use Rattle.reading.proofs.point.read_taken.Goals.{Else-place, Then-place}
use Rattle.reading.proofs.point.read_taken.Goals as goal

-- the point is on a grid line
line : (c : Then-place) → (
    let p = c.args.taken.place in
    (p.fx.0 ≡ 0) ⊎ (p.fy.0 ≡ 0)
    )
line c = (either _ _ (eqb-true _ _, eq-eqb _ _) (eqb-true _ _, eq-eqb _ _)).0 c.if-place.true

-- the point is off the lines
off : (c : Else-place) → (
    let p = c.args.taken.place in
    (0 < p.fx.0) × (0 < p.fy.0)
    )
off c =
    let p = c.args.taken.place in
    let n = neither (eqb p.fx.0 0) (eqb p.fy.0 0) c.if-place.false in
    (omega (arith, eqb-false p.fx.0 0 n.0), omega (arith, eqb-false p.fy.0 0 n.1))

pub under-edge-requires : goal.under-edge-requires
under-edge-requires c =
    rw c.cut-bytes.ensures.bytes (line_in c.requires (line c))

pub read_along-requires : goal.read_along-requires
read_along-requires c =
    let m = c.requires.measured in
    ⊎_elim (λ e. omega (arith, m.y)) (λ e. omega (arith, m.x)) (line (goal.at.read_along-requires c).Then-place)

pub returns-then-place : goal.returns-then-place
unfolding read_taken
returns-then-place c =
    let under = rw c.cut-bytes.ensures.bytes at c.under-edge.ensures in
    c.read_along.ensures ∙ sym (along_reads _ _ c.requires.measured under)

pub words-words-requires : goal.words-words-requires
words-words-requires c = word_in c.requires

pub east_of-south-requires : goal.east_of-south-requires
east_of-south-requires c =
    let edges = edges_in c.requires (off (goal.at.east_of-south-requires c).Else-place).0 (off (goal.at.east_of-south-requires c).Else-place).1 in
    rw (c.cut-bytes.ensures.bytes, c.words-words.ensures) (omega arith, omega (arith, edges))

pub east_of-north-requires : goal.east_of-north-requires
east_of-north-requires c =
    let edges = edges_in c.requires (off (goal.at.east_of-north-requires c).Else-place).0 (off (goal.at.east_of-north-requires c).Else-place).1 in
    rw (c.cut-bytes.ensures.bytes, c.words-words.ensures) (omega arith, omega (arith, edges))

pub read_between-requires : goal.read_between-requires
read_between-requires c = c.requires.measured

pub returns : goal.returns
unfolding read_taken
returns c =
    let w = word c.args.taken.place in
    let last : w + 16 + 1 ≡ w + 17 = omega arith in
    let is = c.cut-bytes.ensures.bytes in
    let at = c.words-words.ensures in
    let weigh = all_weigh_lem c.requires (off (goal.at.returns c).Else-place).0 (off (goal.at.returns c).Else-place).1 in
    let around = around_is _ _ (rw (is, at) at c.east_of-south.ensures) (rw (is, at, last) at c.east_of-north.ensures) c.args.taken.place.weights weigh in
    c.read_between.ensures ∙ ap read_corners (sym around)
