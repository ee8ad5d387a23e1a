-- P11 and P12 hold: each computes to what document 01 says. Assumes nothing.
use mathlib.Core.Path.{◌≡◌, refl, ◌∙◌}
use mathlib.Core.Bool.{Bool}
use mathlib.Core.List.{[], ◌∷◌}
use Prim.Native.Nat.{ℕ, ◌+◌, ◌*◌}
use lib.Dec.{leb}
use Rattle.ground.specs.Figure.{AllHold}
use Rattle.ground.specs.Every.{every}
use Rattle.path.specs.First.{first_from}
use Rattle.path.specs.Path.{Q, N, line}
use Rattle.profile.specs.Profile.{zeros, up_to}
use Rattle.masts.specs.Clear.{clear_by}
use Rattle.masts.specs.Plan.{first_mast, least_sum, plan_of}
use Rattle.link.specs.Clear.{T, G, need, clear}
use Rattle.plan.specs.Figure.{P11, P12, answer_of}

-- P12's two clear tests, each at its one sample: what that needs, and the line between masts on ends at 0 m. They are laid out once, before some
-- forty thousand pairs are tried.
abbrev middle : ℕ → ℕ → ℕ → Bool
middle needed a b = leb needed (line 2 (0 + 1000 * a) (0 + 1000 * b) 1)

-- the two tests of P12 come to that
laid_out : P12.computed ≡ (answer_of (middle 198030) ∷ answer_of (middle 200030) ∷ [])
unfolding Q first_from N zeros up_to every T G need clear_by clear
laid_out = refl

-- the pairs tried give what document 01 says
tried : (answer_of (middle 198030) ∷ answer_of (middle 200030) ∷ []) ≡ P12.said
unfolding first_from first_mast least_sum plan_of
tried = refl

pub figures : AllHold (P11 ∷ P12 ∷ [])
unfolding Q first_from N zeros up_to every T G need clear_by clear first_mast least_sum plan_of
figures = (refl, (laid_out ∙ tried, tt))
