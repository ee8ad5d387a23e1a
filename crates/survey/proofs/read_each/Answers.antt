-- `read_each` meets its contract: the lists fit, so each has an entry i, and the answer that is entered there is the one that the contract speaks of. Assumes
-- nothing.
use mathlib.Core.Path.{◌≡◌, refl, ◌∙◌, ap}
use Prim.Native.Nat.{ℕ}
use native.Mathlib.Omega.{arith}
use Rattle.terrain.proofs.Laws.Checked.{gave_opens}
use Rattle.reading.specs.Reading.{read_answer}
use Rattle.reading.specs.declared.point.ReadAnswer.{ReadAnswer}
use Rattle.reading.proofs.Laws.Reading.{point_is_spot}
use Rattle.survey.specs.Survey.{Lists, five_lists, written}
use Rattle.survey.specs.Inside.{answer_in}
use Rattle.survey.proofs.Laws.Lists.{ListsFit, fits, one_answer_more}
use Rattle.survey.proofs.Laws.Survey.{in_bytes}
use Rattle.survey.proofs.read_each.Goals.{Start, After-from}
use Rattle.survey.proofs.read_each.Goals as goal

-- the lists as they were lent
abbrev lent : Start → Lists
lent c = five_lists c.args.eastings.now c.args.northings.now c.args.heights.now c.args.codes.now c.args.refusals.now

-- they fit
fit : (c : Start) → ListsFit (lent c)
fit c = fits (lent c) c.requires.1

-- what the contract says that the entries hold
abbrev answer : Start → ℕ → ReadAnswer
answer c = answer_in c.args.file.now c.args.terrain (lent c)

-- the answer to point i is the one that the contract speaks of
read : (c : After-from) → c.from.result ≡ answer (goal.at.After-from c).Start c.loop-i.i
read c = c.from.ensures ∙ ap read_answer ((rw c.point_at-point.ensures at c.read_in-read.ensures) ∙ point_is_spot c.requires.0 _)

pub loop-i-init : goal.loop-i-init
unfolding written
loop-i-init c = (omega arith, refl)

pub point_at-point-requires : goal.point_at-point-requires
point_at-point-requires c =
    let f = fit (goal.at.point_at-point-requires c).Start in
    (omega arith, omega arith)

pub read_in-read-requires : goal.read_in-read-requires
read_in-read-requires c = gave_opens c.requires.0

pub enter-requires : goal.enter-requires
enter-requires c =
    let f = fit (goal.at.enter-requires c).Start in
    ((omega arith, (omega arith, omega arith)), rw (read (goal.at.enter-requires c).After-from) (in_bytes _ c.requires.0))

pub loop-i-preserved : goal.loop-i-preserved
loop-i-preserved c =
    let e = c.enter.ensures in
    let start = (goal.at.loop-i-preserved c).Start in
    let more = one_answer_more (answer start) (lent start) _ c.loop-i.invariant.1 (read (goal.at.loop-i-preserved c).After-from) in
    (omega arith, rw (e.0, e.1.0, e.1.1) more)
