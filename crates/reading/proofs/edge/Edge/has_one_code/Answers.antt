-- `Edge::has_one_code` meets its contract: the two codes are compared. Assumes nothing.
use Rattle.reading.proofs.edge.Edge.has_one_code.Goals as goal

pub returns : goal.returns
returns c = rw (c.first_code.ensures, c.second_code.ensures)
