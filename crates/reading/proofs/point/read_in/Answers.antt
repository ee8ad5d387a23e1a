-- `read_in` meets its contract: the record that was sought is in the file. Assumes nothing.
use Rattle.ground.specs.Refusal.{outcome_of}
use Rattle.ground.proofs.Laws.Outcome.{told}
use Rattle.terrain.proofs.Laws.Taken.{vouched_reaches}
use Rattle.reading.proofs.point.read_in.Goals as goal

pub read_taken-requires : goal.read_taken-requires
read_taken-requires c = vouched_reaches c.requires _ _ (told outcome_of c.seek.ensures c.in_ok-seek.was)
