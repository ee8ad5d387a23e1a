-- The name of a file. Document 01, "Ground of a file".
-- Assumes nothing.
use Rattle.std.specs.Prelude.{ℕ, ◌+◌, ◌/◌, ◌%◌, not, List, [], ◌∷◌}
use Rattle.ground.specs.Outcome.{Outcome, given, unless, refusal_number, refusal_place, filled_by}
use Rattle.ground.specs.Boundary.{named}
use Rattle.ground.specs.declared.name.NameAnswer.{NameAnswer}

-- the file letter runs A (65) for 0 to U (85) for 80
abbrev pub letter : ℕ → ℕ
letter b = 65 + b / 4

-- four bytes: N (78), the letter, the zone as two digits (0 is 48)
abbrev pub name_of : ℕ → ℕ → List ℕ
name_of b z = 78 ∷ letter b ∷ (48 + z / 10) ∷ (48 + z % 10) ∷ []

-- the file name gives only refusal 2
abbrev pub file_name : ℕ → ℕ → Outcome (List ℕ)
file_name b z = unless (not (named b z)) 2 (given (name_of b z))

-- the answer of `janlishuk_name` as the caller gets it
abbrev pub name_answer : Outcome (List ℕ) → NameAnswer
name_answer o = record { refusal = refusal_number o; place = refusal_place o; name = filled_by (0 ∷ 0 ∷ 0 ∷ 0 ∷ []) o }
