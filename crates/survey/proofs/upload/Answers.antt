-- `upload` meets its contract: the file and the lists are admitted, then each point is read, each by its own function. Assumes nothing.
use mathlib.Core.Path.{◌≡◌}
use Rattle.std.proofs.lemmas.Result.{err_from_is_err_and}
use Rattle.ground.specs.Outcome.{given, refused}
use Rattle.ground.specs.Refusal.{number, outcome_of}
use Rattle.ground.proofs.Laws.Outcome.{told}
use Rattle.survey.specs.Survey.{Lists, five_lists, unfit, admitted}
use Rattle.survey.proofs.Laws.Survey.{upload_refused, admitted_is, upload_given}
use Rattle.survey.proofs.upload.Goals.{Start, In_ok-terrain, In_err-terrain}
use Rattle.survey.proofs.upload.Goals as goal

-- the lists as they were lent
abbrev lent : Start → Lists
lent c = five_lists c.args.eastings.now c.args.northings.now c.args.heights.now c.args.codes.now c.args.refusals.now

-- the file that passed, with lists that fit
gave : (c : In_ok-terrain) → admitted c.args.file.now c.args.base c.args.zone (unfit (lent (goal.at.In_ok-terrain c).Start)) ≡ given c.in_ok-terrain.terrain
unfolding unfit
gave c = told outcome_of (rw c.are_unfit-unfit.ensures at c.admit.ensures) c.in_ok-terrain.was

pub read_each-requires : goal.read_each-requires
read_each-requires c =
    let is = admitted_is _ _ _ (lent (goal.at.read_each-requires c).Start) (gave (goal.at.read_each-requires c).In_ok-terrain) in
    (record { base = _; zone = _; gave = is.0 }, is.1)

pub returns : goal.returns
returns c = upload_given _ _ _ _ (gave (goal.at.returns c).In_ok-terrain) c.read_each.ensures

-- what was refused, with no place
lost : (c : In_err-terrain) → admitted c.args.file.now c.args.base c.args.zone (unfit (lent (goal.at.In_err-terrain c).Start)) ≡ refused (number c.in_err-terrain.field-0.0) 0
unfolding unfit
lost c = told outcome_of (rw c.are_unfit-unfit.ensures at c.admit.ensures) c.in_err-terrain.was

pub returns-in_err-terrain : goal.returns-in_err-terrain
returns-in_err-terrain c =
    let p = err_from_is_err_and c.from_residual.result c.from_residual.ensures.1 in
    rw (p.1, p.2) (upload_refused _ _ _ _ (lost (goal.at.returns-in_err-terrain c).In_err-terrain))
