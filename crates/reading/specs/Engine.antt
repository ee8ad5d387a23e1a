-- The point for the prediction engine. Document 01, "A reading". Assumes nothing.
use Rattle.std.specs.Prelude.{Bool, true, false, ◌||◌, ℕ, eqb, pos, Float, Result}
use Rattle.std.specs.Float.{binary64}
use Rattle.std.specs.Float.Ieee.{div, of_int}
use Rattle.ground.specs.Outcome.{Outcome, given, ◌and_then◌}
use Rattle.ground.specs.Refusal.{outcome_of}
use Rattle.ground.specs.declared.refusal.Refusal.{Refusal}
use Rattle.reading.specs.declared.point.Reading.{Reading}
use Rattle.reading.specs.declared.engine.EnginePoint.{EnginePoint}
use Rattle.reading.specs.declared.engine.EnginePoint.TheVariants.{Land, Water}

-- the metres are a double: the exact sum divided once by 250,000, both converted without loss
unfoldable pub metres_of : ℕ → Float
metres_of height = div binary64 (of_int binary64 (pos height)) (of_int binary64 (pos 250000))

-- codes 3 (fresh water) and 6 (sea water) are water
abbrev pub is_water : ℕ → Bool
is_water code = eqb code 3 || eqb code 6

-- what a point says to the engine: whether it is water or land, its code and its metres
pub record EngineValues : Type 0 where
  pub water : Bool
  pub code : ℕ
  pub metres : Float

-- what each case of `EnginePoint` says
abbrev pub values_of : EnginePoint → EngineValues
values_of (Land m c) = record { water = false; code = c; metres = m }
values_of (Water m c) = record { water = true; code = c; metres = m }

-- what the answer to a point means: document 01's values, or its number
abbrev pub engine_means : Result EnginePoint Refusal → Outcome EngineValues
engine_means r = outcome_of r and_then λ p. given (values_of p)

-- a point that is read answers as water or as land, by its code
abbrev pub engine : Outcome Reading → Outcome EngineValues
engine o = o and_then λ r. given (record { water = is_water r.code; code = r.code; metres = metres_of r.height })
