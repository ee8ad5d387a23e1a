-- The point for the engine as the exported call answers it. Document 01, "A reading". Assumes nothing.
use Rattle.std.specs.Prelude.{Bool, true, false, ℕ, pos}
use Rattle.std.specs.Float.{binary64}
use Rattle.std.specs.Float.Ieee.{of_int}
use Rattle.ground.specs.Outcome.{Outcome, given, ◌and_then◌, refusal_number, refusal_place, filled_by}
use Rattle.reading.specs.Engine.{EngineValues}
use Rattle.janlishuk.specs.declared.point.EngineAnswer.{EngineAnswer}

-- the kind of a point that is read: land is 1, water 2 (house)
abbrev pub kind : Bool → ℕ
kind false = 1
kind true = 2

-- the answer as the caller gets it; beside a refusal kind, code and metres are 0
abbrev pub engine_answer : Outcome EngineValues → EngineAnswer
engine_answer o =
    record {
      refusal = refusal_number o;
      place = refusal_place o;
      kind = filled_by 0 (o and_then λ v. given (kind v.water));
      code = filled_by 0 (o and_then λ v. given v.code);
      metres = filled_by (of_int binary64 (pos 0)) (o and_then λ v. given v.metres);
    }
