-- Two answers that mean the same are the same, for the enum that this crate answers with: so its promise leaves one answer. Assumes nothing.
use mathlib.Core.Path.{◌≡◌, refl, sym, ◌∙◌, ap}
use mathlib.Core.Bool.{cond}
use Rattle.std.specs.Prelude.{Result, Ok, Err}
use Rattle.ground.specs.Outcome.{Outcome, given, refused, refusal_number}
use Rattle.ground.specs.Refusal.{number}
use Rattle.ground.specs.declared.refusal.Refusal.{Refusal}
use Rattle.ground.proofs.Laws.Outcome.{not_both}
use Rattle.ground.proofs.Laws.Refusal.{number_once}
use Rattle.reading.specs.Engine.{EngineValues, values_of, engine_means}
use Rattle.reading.specs.declared.engine.EnginePoint.{EnginePoint}
use Rattle.reading.specs.declared.engine.EnginePoint.TheVariants as engine-cases

-- the engine's point, told by what it says
from : EngineValues → EnginePoint
from v = cond v.water (engine-cases.Water v.metres v.code) (engine-cases.Land v.metres v.code)

-- `from` takes what a point says back to the point
back : (r : EnginePoint) → from (values_of r) ≡ r
unfolding from
back (engine-cases.Land m c) = refl
back (engine-cases.Water m c) = refl

-- what is given, told by an outcome
given_in : EngineValues → Outcome EngineValues → EngineValues
given_in v (given w) = w
given_in v (refused number place) = v

-- two points for the engine
pub engine_once : (r s : Result EnginePoint Refusal) → engine_means r ≡ engine_means s → r ≡ s
unfolding given_in
engine_once (Ok p) (Ok q) e = ap Ok (sym (back p) ∙ ap from (ap (given_in (values_of p)) e) ∙ back q)
engine_once (Ok p) (Err s) e = absurd (not_both (sym e))
engine_once (Err r) (Ok q) e = absurd (not_both e)
engine_once (Err r) (Err s) e = ap Err (number_once r s (ap refusal_number e))
