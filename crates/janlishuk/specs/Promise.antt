-- What each public call promises of its answer r, for all bytes and all numbers: what the crates' definitions give for what it was asked with, what lent
-- lists hold after the call, and that the lent file holds after it what it held before. Assumes nothing.
use Rattle.std.specs.Prelude.{◌≡◌, List, ℕ, Result}
use Rattle.std.specs.Borrow.{Bor}
use Rattle.ground.specs.Measure.{metres}
use Rattle.ground.specs.Name.{file_name, name_answer}
use Rattle.ground.specs.Boundary.{base_of, base_answer}
use Rattle.ground.specs.declared.name.NameAnswer.{NameAnswer}
use Rattle.ground.specs.declared.table.BaseAnswer.{BaseAnswer}
use Rattle.ground.specs.declared.point.Point.{Point}
use Rattle.ground.specs.declared.refusal.Refusal.{Refusal}
use Rattle.terrain.specs.Check.{checked, check_answer}
use Rattle.terrain.specs.Record.{record_for, RecordPart}
use Rattle.reading.specs.Reading.{reading, read_answer}
use Rattle.reading.specs.Engine.{engine, engine_means}
use Rattle.terrain.specs.declared.check.CheckAnswer.{CheckAnswer}
use Rattle.reading.specs.declared.point.ReadAnswer.{ReadAnswer}
use Rattle.reading.specs.declared.engine.EnginePoint.{EnginePoint}
use Rattle.spot.specs.Spot.{spot}
use Rattle.survey.specs.Survey.{Lists, Uploaded}
use Rattle.survey.specs.declared.UploadAnswer.{UploadAnswer}
use Rattle.path.specs.Path.{ask_masts}
use Rattle.profile.specs.Profile.{linked, profile, profile_answer}
use Rattle.profile.specs.Row.{row, row_answer}
use Rattle.profile.specs.declared.ProfileAnswer.{ProfileAnswer}
use Rattle.profile.specs.declared.row.RowAnswer.{RowAnswer}
use Rattle.link.specs.Clear.{verdict, verdict_answer}
use Rattle.plan.specs.Plan.{Plan}
use Rattle.link.specs.declared.clear.VerdictAnswer.{VerdictAnswer}
use Rattle.plan.specs.declared.PlanAnswer.{PlanAnswer}
use Rattle.janlishuk.specs.Engine.{engine_answer}
use Rattle.janlishuk.specs.declared.point.EngineAnswer.{EngineAnswer}

-- the terrain bytes are never written
abbrev Unwritten : List ℕ → List ℕ → Type 0
Unwritten before after = after ≡ before

-- `janlishuk_check`: M of a file that passes, or refusal 1, 2 or 3
abbrev pub Checks : (before after : List ℕ) → ℕ → ℕ → CheckAnswer → Type 0
Checks file after b z r = (r ≡ check_answer (checked file b z)) × Unwritten file after

-- `janlishuk_name`: the file's name, or refusal 2
abbrev pub Names : ℕ → ℕ → NameAnswer → Type 0
Names b z r = r ≡ name_answer (file_name b z)

-- `janlishuk_base`: the base of a northing, or refusal 4
abbrev pub FindsBase : ℕ → BaseAnswer → Type 0
FindsBase northing r = r ≡ base_answer (base_of (metres northing))

-- `janlishuk_read`: the exact height and the surface code of a point, or refusal 1 to 6
abbrev pub Reads : (before after : List ℕ) → ℕ → ℕ → Point → ReadAnswer → Type 0
Reads file after b z p r = (r ≡ read_answer (reading file b z p)) × Unwritten file after

-- `janlishuk_spot`: the exact height and the surface code of a point, with no check of the whole index, or refusal 1 to 6
abbrev pub Spots : (before after : List ℕ) → ℕ → ℕ → Point → ReadAnswer → Type 0
Spots file after b z p r = (r ≡ read_answer (spot file b z p)) × Unwritten file after

-- `janlishuk_upload`: what all five lent lists hold afterwards, of which three are filled with what the points give; or refusal 1, 2, 3 or 10, and they
-- hold what they held
abbrev pub Uploads : (before after : List ℕ) → ℕ → ℕ → (lent left : Lists) → UploadAnswer → Type 0
Uploads file after b z lent left r = Uploaded file b z lent left r × Unwritten file after

-- `record`: the record that a point is read from, a part of the file; empty where 1 to 5 holds
abbrev pub HandsBack : (before after : Bor (List ℕ)) → ℕ → ℕ → Point → Bor (List ℕ) → Type 0
HandsBack file after b z p r = RecordPart file r (record_for file.now b z p) × Unwritten file.now after.now

-- `engine_point`: land or water with metres and code, as an enum, or refusal 1 to 6
abbrev pub Tells : (before after : List ℕ) → ℕ → ℕ → Point → Result EnginePoint Refusal → Type 0
Tells file after b z p r = (engine_means r ≡ engine (reading file b z p)) × Unwritten file after

-- `janlishuk_engine_point`: land or water with metres and code, or refusal 1 to 6, as a struct
abbrev pub Shows : (before after : List ℕ) → ℕ → ℕ → Point → EngineAnswer → Type 0
Shows file after b z p r = (r ≡ engine_answer (engine (reading file b z p))) × Unwritten file after

-- `janlishuk_profile`: N, and the exact height and the surface code of each sample, or refusal 1 to 7
abbrev pub Profiles : (before after : List ℕ) → ℕ → ℕ → Point → Point → ProfileAnswer → Type 0
Profiles file after b z p q r = (r ≡ profile_answer (profile file b z p q)) × Unwritten file after

-- `janlishuk_verdict`: whether the path is clear with masts ma and mb, or refusal 1 to 8
abbrev pub Judges : (before after : List ℕ) → ℕ → ℕ → Point → Point → (ma mb : ℕ) → VerdictAnswer → Type 0
Judges file after b z p q ma mb r = (r ≡ verdict_answer (verdict file b z p q ma mb)) × Unwritten file after

-- `janlishuk_plan`: demand 3 within the limits la and lb, or refusal 1 to 9
abbrev pub Plans : (before after : List ℕ) → ℕ → ℕ → Point → Point → (la lb : ℕ) → PlanAnswer → Type 0
Plans file after b z p q la lb r = Plan (linked file b z (ask_masts p q la lb)) la lb r × Unwritten file after

-- `janlishuk_engine_row`: the height in metres and the share of the way of sample i, or refusal 1 to 8
abbrev pub GivesRow : (before after : List ℕ) → ℕ → ℕ → Point → Point → (i : ℕ) → RowAnswer → Type 0
GivesRow file after b z p q i r = (r ≡ row_answer (row file b z p q i)) × Unwritten file after
