-- `read` meets its contract: in a file that passed, a point is read as in one that was opened. Assumes nothing.
use Rattle.ground.specs.Refusal.{outcome_of}
use Rattle.ground.proofs.Laws.Outcome.{told}
use Rattle.terrain.specs.Check.{Gave}
use Rattle.terrain.proofs.Laws.Checked.{gave_opens}
use Rattle.reading.specs.Reading.{reading}
use Rattle.reading.proofs.Laws.Reading.{point_is_spot}
use Rattle.reading.proofs.point.read.Goals.{In_ok-check_file}
use Rattle.reading.proofs.point.read.Goals as goal

-- the file that passed
gave : (c : In_ok-check_file) → Gave c.args.file.now c.in_ok-check_file.field-0
gave c = record { base = _; zone = _; gave = told outcome_of c.check_file.ensures c.in_ok-check_file.was }

pub read_in-requires : goal.read_in-requires
read_in-requires c = gave_opens (gave (goal.at.read_in-requires c).In_ok-check_file)

pub returns : goal.returns
unfolding reading
returns c =
    simp (told outcome_of c.check_file.ensures c.in_ok-check_file.was, ← point_is_spot (gave (goal.at.returns c).In_ok-check_file), c.read_in.ensures)
