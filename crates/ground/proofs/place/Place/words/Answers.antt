-- `Place::words` meets its contract: one, sixteen and seventeen past the word of the south-west corner. Assumes nothing.
use native.Mathlib.Nat.{add_assoc}
use Rattle.ground.proofs.place.Place.words.Goals as goal

pub returns : goal.returns
returns c = simp (c.word-w.ensures, add_assoc)
