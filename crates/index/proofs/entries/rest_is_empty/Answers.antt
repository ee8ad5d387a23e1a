-- `rest_is_empty` meets its contract: the walk over the index ends at 3072 exactly if it meets no number. Assumes nothing.
use Rattle.index.proofs.Laws.Walk.{rest_is}
use Rattle.index.proofs.entries.rest_is_empty.Goals as goal

pub returns : goal.returns
returns c = rest_is c.next_entry.ensures
