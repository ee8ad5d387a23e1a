-- `take_beside` meets its contract: each rectangle is tried where it is allowed, and the next one where it is not covered. Assumes nothing.
use mathlib.Core.Path.{◌≡◌, sym, ◌∙◌}
use mathlib.Core.Bool.{true, ◌&&◌, and-eq-true_iff}
use mathlib.Core.List.{[]}
use native.Mathlib.Omega.{arith}
use Rattle.ground.specs.Seam.{west_allowed, south_allowed, in_west, in_south, when, beside}
use Rattle.ground.proofs.Laws.Seam.{on_west, on_south, west_number, south_number, corner_number}
use Rattle.terrain.specs.Record.{first_covered}
use Rattle.terrain.proofs.Laws.Taken.{Tried, tried}
use Rattle.terrain.proofs.record.take_beside.Goals.{After-entry_before-entry, After-entry_before-entry-2, After-entry_before-entry-3, Else-entry-ne0-2}
use Rattle.terrain.proofs.record.take_beside.Goals as goal

pub entry_before-entry-requires : goal.entry_before-entry-requires
entry_before-entry-requires c =
    (c.requires.0, λ e. omega (arith, c.requires.1, west_number c.args.place (sym c.allows_west-west.ensures ∙ e)))

-- what comes of trying the rectangle to the west
west : (c : After-entry_before-entry) → (
    let a = c.args in
    let s = a.place in
    let rest = when (south_allowed s) (in_south s) (when (west_allowed s && south_allowed s) (in_south (in_west s)) []) in
    Tried a.file.now (west_allowed s) (in_west s) rest c.entry_before-entry.result
    )
west c =
    let s = c.args.place in
    tried _ (west_allowed s) (in_west s) _ (rw c.allows_west-west.ensures at c.entry_before-entry.ensures)
    λ e. omega (arith, c.requires.1, west_number s e)

pub in_west-requires : goal.in_west-requires
in_west-requires c =
    ((on_west c.args.place).0 ((west (goal.at.in_west-requires c).After-entry_before-entry).held c.if-entry-ne0.true)).beyond

pub returns-then-entry-ne0 : goal.returns-then-entry-ne0
returns-then-entry-ne0 c =
    rw c.in_west.ensures (sym ((west (goal.at.returns-then-entry-ne0 c).After-entry_before-entry).found c.if-entry-ne0.true))

pub entry_before-entry-requires-2 : goal.entry_before-entry-requires-2
entry_before-entry-requires-2 c =
    (c.requires.0, λ e. omega (arith, c.requires.1, south_number c.args.place (sym c.allows_south-south.ensures ∙ e)))

-- what comes of trying the rectangle to the south
south : (c : After-entry_before-entry-2) → (
    let a = c.args in
    let s = a.place in
    let rest = when (west_allowed s && south_allowed s) (in_south (in_west s)) [] in
    Tried a.file.now (south_allowed s) (in_south s) rest c.entry_before-entry-2.result
    )
south c =
    let s = c.args.place in
    tried _ (south_allowed s) (in_south s) _ (rw c.allows_south-south.ensures at c.entry_before-entry-2.ensures)
    λ e. omega (arith, c.requires.1, south_number s e)

pub in_south-requires : goal.in_south-requires
in_south-requires c =
    ((on_south c.args.place).0 ((south (goal.at.in_south-requires c).After-entry_before-entry-2).held c.if-entry-ne0-2.true)).beyond

pub returns-then-entry-ne0-2 : goal.returns-then-entry-ne0-2
returns-then-entry-ne0-2 c =
    rw c.in_south.ensures (sym ((west (goal.at.returns-then-entry-ne0-2 c).After-entry_before-entry).passed c.if-entry-ne0.false ∙ (south (goal.at.returns-then-entry-ne0-2 c).After-entry_before-entry-2).found c.if-entry-ne0-2.true))

-- the two tests together are those of the definition
both : (c : Else-entry-ne0-2) → (
    let s = c.args.place in
    (c.allows_west-west.result && c.allows_south-south.result) ≡ (west_allowed s && south_allowed s)
    )
both c = rw (c.allows_south-south.ensures, c.allows_west-west.ensures)

pub entry_before-entry-requires-3 : goal.entry_before-entry-requires-3
entry_before-entry-requires-3 c = (
  c.requires.0,
  λ e.
      let t : (c.allows_west-west.result && c.allows_south-south.result) ≡ true = e in
      omega (arith, c.requires.1, corner_number c.args.place (sym (both c) ∙ t)),
)

-- what comes of trying the rectangle to the south-west
corner : (c : After-entry_before-entry-3) → (
    let a = c.args in
    let s = a.place in
    Tried a.file.now (west_allowed s && south_allowed s) (in_south (in_west s)) [] c.entry_before-entry-3.result
    )
corner c =
    let s = c.args.place in
    tried _ (west_allowed s && south_allowed s) (in_south (in_west s)) [] (rw (c.allows_south-south.ensures, c.allows_west-west.ensures) at c.entry_before-entry-3.ensures)
    λ e. omega (arith, c.requires.1, corner_number s e)

-- past the rectangles to the west and to the south
past : (c : Else-entry-ne0-2) → (
    let a = c.args in
    let s = a.place in
    first_covered a.file.now (beside s) ≡ first_covered a.file.now (when (west_allowed s && south_allowed s) (in_south (in_west s)) [])
    )
past c =
    let s = c.args.place in
    let south : Tried c.args.file.now (south_allowed s) (in_south s) (when (west_allowed s && south_allowed s) (in_south (in_west s)) []) c.entry_before-entry-2.result =
    tried _ (south_allowed s) (in_south s) _ (rw c.allows_south-south.ensures at c.entry_before-entry-2.ensures)
    λ e. omega (arith, c.requires.1, south_number s e) in
    let west : Tried c.args.file.now (west_allowed s) (in_west s) (when (south_allowed s) (in_south s) (when (west_allowed s && south_allowed s) (in_south (in_west s)) [])) c.entry_before-entry.result =
    tried _ (west_allowed s) (in_west s) _ (rw c.allows_west-west.ensures at c.entry_before-entry.ensures)
    λ e. omega (arith, c.requires.1, west_number s e) in
    west.passed c.if-entry-ne0.false ∙ south.passed c.if-entry-ne0-2.false

pub in_west-requires-then-entry-ne0-3 : goal.in_west-requires-then-entry-ne0-3
in_west-requires-then-entry-ne0-3 c =
    let s = c.args.place in
    ((on_west s).0 ((and-eq-true_iff (west_allowed s) (south_allowed s)).0 ((corner (goal.at.in_west-requires-then-entry-ne0-3 c).After-entry_before-entry-3).held c.if-entry-ne0-3.true)).0).beyond

pub in_south-requires-then-entry-ne0-3 : goal.in_south-requires-then-entry-ne0-3
in_south-requires-then-entry-ne0-3 c =
    let s = c.args.place in
    rw c.in_west-then-entry-ne0-3.ensures ((on_south s).0 ((and-eq-true_iff (west_allowed s) (south_allowed s)).0 ((corner (goal.at.in_south-requires-then-entry-ne0-3 c).After-entry_before-entry-3).held c.if-entry-ne0-3.true)).1).beyond

pub returns-then-entry-ne0-3 : goal.returns-then-entry-ne0-3
returns-then-entry-ne0-3 c =
    rw (c.in_south-then-entry-ne0-3.ensures, c.in_west-then-entry-ne0-3.ensures) (sym (past (goal.at.returns-then-entry-ne0-3 c).Else-entry-ne0-2 ∙ (corner (goal.at.returns-then-entry-ne0-3 c).After-entry_before-entry-3).found c.if-entry-ne0-3.true))

pub returns : goal.returns
unfolding first_covered
returns c = sym (past (goal.at.returns c).Else-entry-ne0-2 ∙ (corner (goal.at.returns c).After-entry_before-entry-3).passed c.if-entry-ne0-3.false)
