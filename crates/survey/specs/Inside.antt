-- What the functions of this crate ask of each other, on the way to the promise. A reader of the promise may pass over this file. Assumes nothing.
use Rattle.std.specs.Prelude.{◌≡◌, List, ℕ, ◌≤◌, ◌<◌, length}
use Rattle.terrain.specs.declared.check.Terrain.{Terrain}
use Rattle.reading.specs.Reading.{point_in, read_answer}
use Rattle.reading.specs.declared.point.ReadAnswer.{ReadAnswer}
use Rattle.survey.specs.Survey.{Lists, point_count, point_at, with_answers}

-- i is one of the points
abbrev pub IsPoint : (eastings northings : List ℕ) → ℕ → Type 0
IsPoint eastings northings i = (i < length eastings) × (i < length northings)

-- each list has an entry i
abbrev pub HasEntry : (heights codes refusals : List ℕ) → ℕ → Type 0
HasEntry heights codes refusals i = (i < length heights) × ((i < length codes) × (i < length refusals))

-- code and refusal fit a byte
abbrev pub InBytes : ReadAnswer → Type 0
InBytes r = (r.code ≤ 255) × (r.refusal ≤ 255)

-- what an entry holds, in a checked file and its zone
abbrev pub answer_in : List ℕ → Terrain → Lists → ℕ → ReadAnswer
answer_in file t l i = read_answer (point_in file t (point_at t.ground.zone l i))

-- the lists with the answers to all their points
abbrev pub HasAnswers : List ℕ → Terrain → (before after : Lists) → Type 0
HasAnswers file t before after = after ≡ with_answers (answer_in file t before) before (point_count before)
