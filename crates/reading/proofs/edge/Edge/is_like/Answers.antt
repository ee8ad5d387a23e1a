-- `Edge::is_like` meets its contract: the codes at the first ends and at the second ends are compared. Assumes nothing.
use Rattle.reading.proofs.edge.Edge.is_like.Goals as goal

pub returns : goal.returns
returns c = rw (c.first_code.ensures, c.first_code-2.ensures, c.second_code.ensures, c.second_code-2.ensures)
