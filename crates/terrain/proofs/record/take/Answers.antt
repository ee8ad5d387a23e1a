-- `take` meets its contract: what the index says of the place's own rectangle decides between its record, one beside it and the refusal. Assumes nothing.
use mathlib.Core.Path.{◌≡◌, sym, ◌∙◌, ap}
use Prim.Native.Nat.{◌+◌}
use native.Mathlib.Omega.{arith}
use borrow.Author.Tests.{ne_eqb}
use Rattle.std.proofs.lemmas.Result.{err_from_is_err_and}
use Rattle.ground.specs.Refusal.{outcome_of}
use Rattle.ground.proofs.Laws.Outcome.{told}
use Rattle.ground.specs.Place.{number}
use Rattle.ground.specs.Seam.{allowed}
use Rattle.index.proofs.Laws.Walk.{from_7_to_M}
use Rattle.terrain.specs.Record.{entry, first_covered, taken}
use Rattle.terrain.proofs.record.take.Goals.{After-entry_of-entry}
use Rattle.terrain.proofs.record.take.Goals as goal

-- the entry of the rectangle
found : (c : After-entry_of-entry) → (
    let a = c.args in
    c.entry_of-entry.result ≡ entry a.file.now (number a.place.rectangle)
    )
found c = c.entry_of-entry.ensures ∙ ap (entry c.args.file.now) c.number-n.ensures

pub returns-then-is_record : goal.returns-then-is_record
unfolding taken allowed first_covered
returns-then-is_record c =
    let named = sym c.is_record.ensures ∙ c.if-is_record.true in
    let r = from_7_to_M c.entry_of-entry.result (6 + c.args.past) named in
    simp (← found (goal.at.returns-then-is_record c).After-entry_of-entry, ne_eqb c.entry_of-entry.result 0 (λ e. omega arith), named)

pub returns-in_err-take_beside : goal.returns-in_err-take_beside
unfolding taken allowed first_covered
returns-in_err-take_beside c =
    let p = err_from_is_err_and c.from_residual.result c.from_residual.ensures.1 in
    rw (p.1, p.2)
    (simp (← found (goal.at.returns-in_err-take_beside c).After-entry_of-entry, c.if-entry-eq0.true, told outcome_of c.take_beside.ensures c.in_err-take_beside.was))

pub returns-then-entry-eq0 : goal.returns-then-entry-eq0
unfolding taken allowed first_covered
returns-then-entry-eq0 c =
    simp (← found (goal.at.returns-then-entry-eq0 c).After-entry_of-entry, c.if-entry-eq0.true, told outcome_of c.take_beside.ensures c.in_ok-take_beside.was, c.vouch.ensures)

pub returns : goal.returns
unfolding taken allowed first_covered
returns c =
    simp (← found (goal.at.returns c).After-entry_of-entry, ne_eqb c.entry_of-entry.result 0 c.if-entry-eq0.false, sym c.is_record.ensures ∙ c.if-is_record.false)
