-- Some survey is given, so no law of an upload that is given speaks of nothing: one point at the south-west corner of rectangle 50, in a file that passes the
-- check and has that rectangle's record, with room for two. Assumes nothing.
use mathlib.Core.Path.{◌≡◌, refl, ap}
use mathlib.Core.List.{[], ◌∷◌}
use Rattle.ground.specs.Outcome.{given, unless, ◌and_then◌}
use Rattle.ground.specs.Boundary.{y_b, rows, named}
use Rattle.terrain.proofs.Laws.Checked.{check_passes}
use Rattle.terrain.proofs.Laws.Witness.{file, some_passes}
use Rattle.survey.specs.Survey.{Lists, five_lists, point_count, unfit, with_answers, answer_of, upload}

-- lists of one point, with something in the room for two
abbrev pub lent : Lists
lent = five_lists (500000 ∷ []) (4433000 ∷ []) (9 ∷ 9 ∷ []) (9 ∷ 9 ∷ []) (9 ∷ 9 ∷ [])

-- the survey is given
pub some_uploaded : (m : Lists) × (upload file 40 17 lent ≡ given m)
unfolding y_b rows named unfit upload
some_uploaded = (
  _,
  ap (λ o. o and_then (λ t. unless (unfit lent) 10 (given t)) and_then λ t. given (with_answers (answer_of file 40 17 lent) lent (point_count lent)))
      (check_passes file 40 17 refl some_passes),
)
