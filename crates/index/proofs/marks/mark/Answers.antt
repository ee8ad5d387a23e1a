-- `mark` meets its contract, by the law of one mark. Assumes nothing.
use Rattle.index.proofs.Laws.Marks.{marks_one}
use Rattle.index.proofs.marks.mark.Goals as goal

pub returns : goal.returns
returns c = simp (c.replace.ensures.value, c.replace.ensures.after) (marks_one _ _)
