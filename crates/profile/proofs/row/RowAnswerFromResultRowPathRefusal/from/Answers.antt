-- The row as C gets it: beside a refusal both doubles are 0. Assumes nothing.
use Rattle.reading.proofs.Laws.Engine.{nought}
use Rattle.profile.proofs.row.RowAnswerFromResultRowPathRefusal.from.Goals as goal

pub returns-in-Err : goal.returns-in-Err
returns-in-Err c = simp (c.in-Err.is, c.number.ensures, nought)
