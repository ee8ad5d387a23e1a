-- `From` of `EngineAnswer` meets its promise: 0.0 is the double of 0. Assumes nothing.
use Rattle.reading.proofs.Laws.Engine.{nought}
use Rattle.janlishuk.proofs.point.EngineAnswerFromResultEnginePointRefusal.from.Goals as goal

pub returns-in-Err : goal.returns-in-Err
returns-in-Err c = simp (c.in-Err.is, c.number.ensures, nought)
