-- `record_at` meets its contract: what `check_file` and `seek` say decides between no bytes and the record cut out of the file. Assumes nothing.
use mathlib.Core.Path.{◌≡◌, refl, ◌∙◌}
use Rattle.ground.specs.Outcome.{given}
use Rattle.ground.proofs.Laws.Outcome.{told}
use Rattle.ground.specs.Refusal.{outcome_of}
use Rattle.terrain.specs.Check.{checked, Gave}
use Rattle.terrain.specs.Record.{record_for, record_in}
use Rattle.terrain.proofs.Laws.Checked.{gave_opens}
use Rattle.terrain.proofs.Laws.Taken.{record_is, all_vouched}
use Rattle.terrain.proofs.record.record_at.Goals.{After-seek, In-Ok, In-Ok-seek}
use Rattle.terrain.proofs.record.record_at.Goals as goal

-- the file that passed
terrain : (c : In-Ok) → (
    let a = c.args in
    checked a.file.now a.base a.zone ≡ given c.in-Ok.terrain
    )
terrain c = told outcome_of c.check_file.ensures c.in-Ok.is

gave : (c : In-Ok) → Gave c.args.file.now c.in-Ok.terrain
gave c = record { base = _; zone = _; gave = terrain c }

pub returns-in_default : goal.returns-in_default
unfolding record_for
returns-in_default c =
    simp (told outcome_of c.check_file.ensures c.in_default.is) (record { bytes = refl; block = refl; start = refl })

pub seek-requires : goal.seek-requires
seek-requires c = gave_opens (gave (goal.at.seek-requires c).In-Ok)

-- what was sought in it
sought : (c : After-seek) → (
    let a = c.args in
    outcome_of c.seek.result ≡ record_in a.file.now c.in-Ok.terrain a.point
    )
sought c = c.seek.ensures ∙ all_vouched (record { base = _; zone = _; gave = told outcome_of c.check_file.ensures c.in-Ok.is }) _

pub returns-in_default-seek : goal.returns-in_default-seek
unfolding record_for
returns-in_default-seek c =
    simp (terrain (goal.at.returns-in_default-seek c).In-Ok, told outcome_of (sought (goal.at.returns-in_default-seek c).After-seek) c.in_default-seek.is)
    (record { bytes = refl; block = refl; start = refl })

-- the record that was found
found : (c : In-Ok-seek) → (
    record_in c.args.file.now c.in-Ok.terrain c.args.point
    ≡ given c.in-Ok-seek.taken
    )
found c =
    let gave : Gave c.args.file.now c.in-Ok.terrain = record { base = _; zone = _; gave = told outcome_of c.check_file.ensures c.in-Ok.is } in
    told outcome_of (c.seek.ensures ∙ all_vouched gave _) c.in-Ok-seek.is

pub cut-requires : goal.cut-requires
cut-requires c =
    let r = (record_is (gave (goal.at.cut-requires c).In-Ok) _ _ (found (goal.at.cut-requires c).In-Ok-seek)).reaches in
    (r.past, r.recorded)

pub returns : goal.returns
unfolding record_for
returns c =
    simp (terrain (goal.at.returns c).In-Ok, found (goal.at.returns c).In-Ok-seek) c.cut.ensures
