-- Every public call, entered once: its contract, what it comes to, its order of checks, and how its answer shows a refusal. Demand 1 of each, and that two
-- results that its promise allows are the same, follow. From the laws of the order of checks and of entries. Assumes nothing.
use mathlib.Core.Path.{◌≡◌, refl, sym, ◌∙◌, ap}
use mathlib.Core.Bool.{Bool}
use mathlib.Core.List.{List, [], ◌∷◌, ◌++◌}
use Prim.Native.Nat.{ℕ}
use denote.Ref.{Bor, MutBor}
use Rattle.std.specs.Prelude.{Result, Ok, Err}
use Rattle.ground.specs.Outcome.{refused, refusal_number, refusal_place, filled_by}
use Rattle.ground.specs.Refusal.{numbered}
use Rattle.ground.specs.declared.refusal.Refusal.{Refusal}
use Rattle.ground.specs.Measure.{metres}
use Rattle.ground.specs.Name.{file_name, name_answer}
use Rattle.ground.specs.Boundary.{base_of, base_answer}
use Rattle.ground.specs.declared.name.NameAnswer.{NameAnswer}
use Rattle.ground.specs.declared.table.BaseAnswer.{BaseAnswer}
use Rattle.ground.specs.declared.point.Point.{Point}
use Rattle.ground.proofs.Laws.Outcome.{not_both}
use Rattle.ground.proofs.Laws.Refusal.{numbered_number}
use Rattle.terrain.specs.Check.{checked, check_answer}
use Rattle.terrain.specs.Record.{record_for, RecordPart}
use Rattle.terrain.specs.declared.check.Terrain.{Terrain}
use Rattle.terrain.specs.declared.check.CheckAnswer.{CheckAnswer}
use Rattle.terrain.specs.declared.record.Taken.{Taken}
use Rattle.terrain.proofs.Laws.Means.{part_once, record_empty}
use Rattle.reading.specs.Reading.{reading, read_answer}
use Rattle.reading.specs.Engine.{EngineValues, engine, engine_means}
use Rattle.reading.specs.declared.point.Reading.{Reading}
use Rattle.reading.specs.declared.point.ReadAnswer.{ReadAnswer}
use Rattle.reading.specs.declared.engine.EnginePoint.{EnginePoint}
use Rattle.reading.proofs.Laws.Means.{engine_once}
use Rattle.spot.specs.Spot.{spot}
use Rattle.survey.specs.Survey.{Lists, five_lists, upload, upload_answer}
use Rattle.survey.specs.declared.UploadAnswer.{UploadAnswer}
use Rattle.profile.specs.Profile.{Profile, profile, profile_answer}
use Rattle.profile.specs.Row.{row, row_answer}
use Rattle.profile.specs.declared.ProfileAnswer.{ProfileAnswer}
use Rattle.profile.specs.declared.row.Row.{Row}
use Rattle.profile.specs.declared.row.RowAnswer.{RowAnswer}
use Rattle.masts.specs.declared.Masts.{Masts}
use Rattle.link.specs.Clear.{verdict, verdict_answer}
use Rattle.plan.specs.Plan.{plan, plan_answer}
use Rattle.link.specs.declared.clear.VerdictAnswer.{VerdictAnswer}
use Rattle.plan.specs.declared.PlanAnswer.{PlanAnswer}
use Rattle.plan.proofs.Laws.Plan.{plan_is}
use Rattle.janlishuk.specs.Engine.{engine_answer}
use Rattle.janlishuk.specs.Order.{FirstOf, of_file, of_name, of_northing, of_point, of_reading, of_spot, of_upload, of_taking, of_profile, of_verdict, of_plan, of_engine_row}
use Rattle.janlishuk.specs.Promise.{Checks, Names, FindsBase, Reads, Spots, Uploads, HandsBack, Tells, Shows, Profiles, Judges, Plans, GivesRow}
use Rattle.janlishuk.specs.Call.{EachMeets, Surveyed, check_shown, name_shown, base_shown, read_shown, upload_shown, point_shown, profile_shown, verdict_shown, plan_shown, row_shown, enum_shown, record_shown}
use Rattle.janlishuk.specs.declared.point.EngineAnswer.{EngineAnswer}
use Rattle.janlishuk.proofs.Laws.Line.{giving, some_of}
use Rattle.janlishuk.proofs.Laws.Order.{file_order, name_order, base_order, taking_order, reading_order, spot_order, upload_order, profile_order, verdict_order, plan_order, row_order}
use Rattle.janlishuk.proofs.Laws.Call.{Shape, by_number_lem, as_struct, Entry, calls_of, each_meets, filling, entered}
use Rattle.janlishuk.proofs.file.janlishuk_check.Reads as janlishuk-check
use Rattle.janlishuk.proofs.file.janlishuk_name.Reads as janlishuk-name
use Rattle.janlishuk.proofs.file.janlishuk_base.Reads as janlishuk-base
use Rattle.janlishuk.proofs.point.janlishuk_read.Reads as janlishuk-read
use Rattle.janlishuk.proofs.point.janlishuk_spot.Reads as janlishuk-spot
use Rattle.janlishuk.proofs.upload.janlishuk_upload.Reads as janlishuk-upload
use Rattle.janlishuk.proofs.point.record.Reads as record-at
use Rattle.janlishuk.proofs.point.engine_point.Reads as engine-point
use Rattle.janlishuk.proofs.point.janlishuk_engine_point.Reads as janlishuk-engine-point
use Rattle.janlishuk.proofs.between.janlishuk_profile.Reads as janlishuk-profile
use Rattle.janlishuk.proofs.between.janlishuk_verdict.Reads as janlishuk-verdict
use Rattle.janlishuk.proofs.between.janlishuk_plan.Reads as janlishuk-plan
use Rattle.janlishuk.proofs.between.janlishuk_engine_row.Reads as janlishuk-engine-row

-- the point as an enum that shows a refusal is that refusal
pub engine_bare : {number at : ℕ} (r : Result EnginePoint Refusal) → engine_means r ≡ refused number at → r ≡ Err (numbered number)
engine_bare (Ok p) e = absurd (not_both (sym e))
engine_bare (Err r) e = ap Err (sym (numbered_number r) ∙ ap numbered (ap refusal_number e))

-- What it is to answer an outcome with each type of answer.
abbrev check_shape : Shape Terrain CheckAnswer check_shown
check_shape = as_struct check_answer (λ o. (refl, refl)) (λ n p. refl)

abbrev name_shape : Shape (List ℕ) NameAnswer name_shown
name_shape = as_struct name_answer (λ o. (refl, refl)) (λ n p. refl)

abbrev base_shape : Shape ℕ BaseAnswer base_shown
base_shape = as_struct base_answer (λ o. (refl, refl)) (λ n p. refl)

abbrev read_shape : Shape Reading ReadAnswer read_shown
read_shape = as_struct read_answer (λ o. (refl, refl)) (λ n p. refl)

abbrev point_shape : Shape EngineValues EngineAnswer point_shown
point_shape = as_struct engine_answer (λ o. (refl, refl)) (λ n p. refl)

abbrev profile_shape : Shape Profile ProfileAnswer profile_shown
profile_shape = as_struct profile_answer (λ o. (refl, refl)) (λ n p. refl)

abbrev verdict_shape : Shape Bool VerdictAnswer verdict_shown
verdict_shape = as_struct verdict_answer (λ o. (refl, refl)) (λ n p. refl)

abbrev plan_shape : Shape Masts PlanAnswer plan_shown
plan_shape = as_struct plan_answer (λ o. (refl, refl)) (λ n p. refl)

abbrev row_shape : Shape Row RowAnswer row_shown
row_shape = as_struct row_answer (λ o. (refl, refl)) (λ n p. refl)

-- an upload answers what the lists hold afterwards, or leaves them as they were lent
abbrev upload_shape : (lent : Lists) → Shape Lists Surveyed (upload_shown lent)
upload_shape lent = as_struct (λ o. record { answer = upload_answer o; lists = filled_by lent o }) (λ o. (refl, refl)) (λ n p. refl)

-- the point as an enum answers what it means
abbrev enum_shape : Shape EngineValues (Result EnginePoint Refusal) enum_shown
enum_shape =
    by_number_lem (λ o r. engine_means r ≡ o) (λ o r e. (ap refusal_number e, ap refusal_place e)) (λ n p r e. engine_bare r e) (λ o r s e f. engine_once r s (e ∙ sym f))

-- the record that is handed back of a file for a point: it is empty exactly where nothing is taken
abbrev record_shape : Bor (List ℕ) → ℕ → ℕ → Point → Shape Taken (Bor (List ℕ)) record_shown
record_shape file b z p =
    let found = record_for file.now b z p in
    record {
      Means = λ o r. (o ≡ found) × RecordPart file r found;
      says = λ o r h i.
          let empty = record_empty file.now b z p in
          let some = some_of (rw h.0 at i) in
          rw h.1.bytes ((λ e. some.0 (empty.0 e)), λ y. empty.1 (some.1 y));
      bare = λ o r h. tt;
      once = λ o r s h k. part_once h.1 k.1;
    }

-- `janlishuk_check`: 1, 2, 3
abbrev pub check_call : Entry
check_call =
    entered janlishuk-check.Asked janlishuk-check.Learnt (record {
      promised = λ κs (file, (base, (zone, end))) r (after, rest). Checks file.now after.now base zone r;
      order = λ κs (file, (base, (zone, end))). of_file file.now base zone;
      shown = λ κs a. check_shown;
      Unwritten = λ κs (file, (base, (zone, end))) x. x.0.now ≡ file.now;
      outcome = λ κs (file, (base, (zone, end))). checked file.now base zone;
      shape = λ κs a. check_shape;
      asks = λ κs a. tt;
      promises = λ κs a r x h. h;
      keeps = λ κs a r x h. h;
      ordered = λ κs (file, (base, (zone, end))). file_order file.now base zone;
    })

-- `janlishuk_name`: 2
abbrev pub name_call : Entry
name_call =
    entered janlishuk-name.Asked janlishuk-name.Learnt (record {
      promised = λ κs (base, (zone, end)) r x. Names base zone r;
      order = λ κs (base, (zone, end)). of_name base zone;
      shown = λ κs a. name_shown;
      Unwritten = λ κs a x. Unit {0};
      outcome = λ κs (base, (zone, end)). file_name base zone;
      shape = λ κs a. name_shape;
      asks = λ κs a. tt;
      promises = λ κs a r x h. h;
      keeps = λ κs a r x h. (h, tt);
      ordered = λ κs (base, (zone, end)). name_order base zone;
    })

-- `janlishuk_base`: 4
abbrev pub base_call : Entry
base_call =
    entered janlishuk-base.Asked janlishuk-base.Learnt (record {
      promised = λ κs (northing, end) r x. FindsBase northing r;
      order = λ κs (northing, end). of_northing northing;
      shown = λ κs a. base_shown;
      Unwritten = λ κs a x. Unit {0};
      outcome = λ κs (northing, end). base_of (metres northing);
      shape = λ κs a. base_shape;
      asks = λ κs a. tt;
      promises = λ κs a r x h. h;
      keeps = λ κs a r x h. (h, tt);
      ordered = λ κs (northing, end). base_order northing;
    })

-- `janlishuk_read`: 1 to 6
abbrev pub read_call : Entry
read_call =
    entered janlishuk-read.Asked janlishuk-read.Learnt (record {
      promised = λ κs (file, (base, (zone, (spot, end)))) r (after, rest). Reads file.now after.now base zone spot r;
      order = λ κs (file, (base, (zone, (spot, end)))). of_reading file.now base zone spot;
      shown = λ κs a. read_shown;
      Unwritten = λ κs (file, (base, (zone, (spot, end)))) x. x.0.now ≡ file.now;
      outcome = λ κs (file, (base, (zone, (spot, end)))). reading file.now base zone spot;
      shape = λ κs a. read_shape;
      asks = λ κs a. tt;
      promises = λ κs a r x h. h;
      keeps = λ κs a r x h. h;
      ordered = λ κs (file, (base, (zone, (spot, end)))). reading_order file.now base zone spot;
    })

-- `janlishuk_spot`: 1, 2, 3 for M, 4, 3 for an entry, 5, 6
abbrev pub spot_call : Entry
spot_call =
    entered janlishuk-spot.Asked janlishuk-spot.Learnt (record {
      promised = λ κs (file, (base, (zone, (p, end)))) r (after, rest). Spots file.now after.now base zone p r;
      order = λ κs (file, (base, (zone, (p, end)))). of_spot file.now base zone p;
      shown = λ κs a. read_shown;
      Unwritten = λ κs (file, (base, (zone, (p, end)))) x. x.0.now ≡ file.now;
      outcome = λ κs (file, (base, (zone, (p, end)))). spot file.now base zone p;
      shape = λ κs a. read_shape;
      asks = λ κs a. tt;
      promises = λ κs a r x h. h;
      keeps = λ κs a r x h. h;
      ordered = λ κs (file, (base, (zone, (p, end)))). spot_order file.now base zone p;
    })

-- what five lent lists hold
abbrev contents : Bor (List ℕ) × (Bor (List ℕ) × (MutBor (List ℕ) × (MutBor (List ℕ) × (MutBor (List ℕ) × Unit {0})))) → Lists
contents (eastings, (northings, (heights, (codes, (refusals, end))))) =
    five_lists eastings.now northings.now heights.now codes.now refusals.now

-- `janlishuk_upload`: 1, 2, 3, 10. A caller has the answer, and the lists that were lent.
abbrev pub upload_call : Entry
upload_call =
    filling janlishuk-upload.Asked janlishuk-upload.Learnt (λ κs r (after, (base, (zone, left))). record { answer = r; lists = contents left }) (record {
      promised = λ κs (file, (base, (zone, lent))) r (after, (b, (z, left))). Uploads file.now after.now base zone (contents lent) (contents left) r;
      order = λ κs (file, (base, (zone, lent))). of_upload file.now base zone (contents lent);
      shown = λ κs (file, (base, (zone, lent))). upload_shown (contents lent);
      Unwritten = λ κs (file, (base, (zone, lent))) x. x.0.now ≡ file.now;
      outcome = λ κs (file, (base, (zone, lent))). upload file.now base zone (contents lent);
      shape = λ κs (file, (base, (zone, lent))). upload_shape (contents lent);
      asks = λ κs a. tt;
      promises = λ κs a r x h. h;
      keeps = λ κs a r x h. (λ k. record { answer = h.0.answer k; lists = h.0.lists k }, h.1);
      ordered = λ κs (file, (base, (zone, lent))). upload_order file.now base zone (contents lent);
    })

-- `record`: 1 to 5. It has no number: the part is empty exactly when one of these holds.
abbrev pub record_call : Entry
record_call =
    entered record-at.Asked record-at.Learnt (record {
      promised = λ κs (file, (base, (zone, (spot, end)))) r (after, rest). HandsBack file after base zone spot r;
      order = λ κs (file, (base, (zone, (spot, end)))). of_taking file.now base zone spot;
      shown = λ κs a. record_shown;
      Unwritten = λ κs (file, (base, (zone, (spot, end)))) x. x.0.now ≡ file.now;
      outcome = λ κs (file, (base, (zone, (spot, end)))). record_for file.now base zone spot;
      shape = λ κs (file, (base, (zone, (spot, end)))). record_shape file base zone spot;
      asks = λ κs a. tt;
      promises = λ κs a r x h. h;
      keeps = λ κs a r x h. ((refl, h.0), h.1);
      ordered = λ κs (file, (base, (zone, (spot, end)))). taking_order file.now base zone spot;
    })

-- `engine_point`: 1 to 6
abbrev pub enum_call : Entry
enum_call =
    entered engine-point.Asked engine-point.Learnt (record {
      promised = λ κs (file, (base, (zone, (spot, end)))) r (after, rest). Tells file.now after.now base zone spot r;
      order = λ κs (file, (base, (zone, (spot, end)))). of_reading file.now base zone spot;
      shown = λ κs a. enum_shown;
      Unwritten = λ κs (file, (base, (zone, (spot, end)))) x. x.0.now ≡ file.now;
      outcome = λ κs (file, (base, (zone, (spot, end)))). engine (reading file.now base zone spot);
      shape = λ κs a. enum_shape;
      asks = λ κs a. tt;
      promises = λ κs a r x h. h;
      keeps = λ κs a r x h. h;
      ordered = λ κs (file, (base, (zone, (spot, end)))). giving _ (reading_order file.now base zone spot);
    })

-- `janlishuk_engine_point`: 1 to 6
abbrev pub point_call : Entry
point_call =
    entered janlishuk-engine-point.Asked janlishuk-engine-point.Learnt (record {
      promised = λ κs (file, (base, (zone, (spot, end)))) r (after, rest). Shows file.now after.now base zone spot r;
      order = λ κs (file, (base, (zone, (spot, end)))). of_reading file.now base zone spot;
      shown = λ κs a. point_shown;
      Unwritten = λ κs (file, (base, (zone, (spot, end)))) x. x.0.now ≡ file.now;
      outcome = λ κs (file, (base, (zone, (spot, end)))). engine (reading file.now base zone spot);
      shape = λ κs a. point_shape;
      asks = λ κs a. tt;
      promises = λ κs a r x h. h;
      keeps = λ κs a r x h. h;
      ordered = λ κs (file, (base, (zone, (spot, end)))). giving _ (reading_order file.now base zone spot);
    })

-- `janlishuk_profile`: 1 to 7
abbrev pub profile_call : Entry
profile_call =
    entered janlishuk-profile.Asked janlishuk-profile.Learnt (record {
      promised = λ κs (file, (base, (zone, (p, (q, end))))) r (after, rest). Profiles file.now after.now base zone p q r;
      order = λ κs (file, (base, (zone, (p, (q, end))))). of_profile file.now base zone p q;
      shown = λ κs a. profile_shown;
      Unwritten = λ κs (file, (base, (zone, (p, (q, end))))) x. x.0.now ≡ file.now;
      outcome = λ κs (file, (base, (zone, (p, (q, end))))). profile file.now base zone p q;
      shape = λ κs a. profile_shape;
      asks = λ κs a. tt;
      promises = λ κs a r x h. h;
      keeps = λ κs a r x h. h;
      ordered = λ κs (file, (base, (zone, (p, (q, end))))). profile_order file.now base zone p q;
    })

-- `janlishuk_verdict`: 1 to 8
abbrev pub verdict_call : Entry
verdict_call =
    entered janlishuk-verdict.Asked janlishuk-verdict.Learnt (record {
      promised = λ κs (file, (base, (zone, (p, (q, (a, (b, end))))))) r (after, rest). Judges file.now after.now base zone p q a b r;
      order = λ κs (file, (base, (zone, (p, (q, (a, (b, end))))))). of_verdict file.now base zone p q a b;
      shown = λ κs a. verdict_shown;
      Unwritten = λ κs (file, (base, (zone, (p, (q, (a, (b, end))))))) x. x.0.now ≡ file.now;
      outcome = λ κs (file, (base, (zone, (p, (q, (a, (b, end))))))). verdict file.now base zone p q a b;
      shape = λ κs a. verdict_shape;
      asks = λ κs a. tt;
      promises = λ κs a r x h. h;
      keeps = λ κs a r x h. h;
      ordered = λ κs (file, (base, (zone, (p, (q, (a, (b, end))))))). verdict_order file.now base zone p q a b;
    })

-- `janlishuk_plan`: 1 to 9
abbrev pub plan_call : Entry
plan_call =
    entered janlishuk-plan.Asked janlishuk-plan.Learnt (record {
      promised = λ κs (file, (base, (zone, (p, (q, (a, (b, end))))))) r (after, rest). Plans file.now after.now base zone p q a b r;
      order = λ κs (file, (base, (zone, (p, (q, (a, (b, end))))))). of_plan file.now base zone p q a b;
      shown = λ κs a. plan_shown;
      Unwritten = λ κs (file, (base, (zone, (p, (q, (a, (b, end))))))) x. x.0.now ≡ file.now;
      outcome = λ κs (file, (base, (zone, (p, (q, (a, (b, end))))))). plan file.now base zone p q a b;
      shape = λ κs a. plan_shape;
      asks = λ κs a. tt;
      promises = λ κs a r x h. h;
      keeps = λ κs (file, (base, (zone, (p, (q, (a, (b, end))))))) r x h. (plan_is file.now base zone p q a b r h.0, h.1);
      ordered = λ κs (file, (base, (zone, (p, (q, (a, (b, end))))))). plan_order file.now base zone p q a b;
    })

-- `janlishuk_engine_row`: 1 to 8
abbrev pub row_call : Entry
row_call =
    entered janlishuk-engine-row.Asked janlishuk-engine-row.Learnt (record {
      promised = λ κs (file, (base, (zone, (p, (q, (i, end)))))) r (after, rest). GivesRow file.now after.now base zone p q i r;
      order = λ κs (file, (base, (zone, (p, (q, (i, end)))))). of_engine_row file.now base zone p q i;
      shown = λ κs a. row_shown;
      Unwritten = λ κs (file, (base, (zone, (p, (q, (i, end)))))) x. x.0.now ≡ file.now;
      outcome = λ κs (file, (base, (zone, (p, (q, (i, end)))))). row file.now base zone p q i;
      shape = λ κs a. row_shape;
      asks = λ κs a. tt;
      promises = λ κs a r x h. h;
      keeps = λ κs a r x h. h;
      ordered = λ κs (file, (base, (zone, (p, (q, (i, end)))))). row_order file.now base zone p q i;
    })

-- every public call
abbrev pub calls : List Entry
calls =
    check_call
    ∷ name_call
    ∷ base_call
    ∷ read_call
    ∷ spot_call
    ∷ upload_call
    ∷ record_call
    ∷ enum_call
    ∷ point_call
    ∷ profile_call
    ∷ verdict_call
    ∷ plan_call
    ∷ row_call
    ∷ []

-- demand 1, of every public call
pub demand_1 : EachMeets (calls_of calls)
demand_1 = each_meets calls

-- Demand 1 written out for one call, `janlishuk_read`, in the caller's own fields. `demand_1` says the same of each call in `calls`, by its own order and
-- answer.
module _ (κs : read_call.call.K) (a : read_call.call.A κs) (r : ReadAnswer) (x : read_call.call.S κs) (told : janlishuk-read.Learnt κs a r x) where
  abbrev file : List ℕ
  file = a.0.now

  abbrev b : ℕ
  b = a.1.0

  abbrev z : ℕ
  z = a.1.1.0

  abbrev p : Point
  p = a.1.1.1.0

  pub record WrittenOut : Type 0 where
    pub promise : Reads file x.0.now b z p r
    pub answers_or_refuses : FirstOf (of_file file b z ++ of_point file b z 0 p) r.refusal r.place
    pub carries_only : (r.refusal ≡ 0 → ⊥) → r ≡ record { refusal = r.refusal; place = r.place; height = 0; code = 0 }
    pub never_writes : x.0.now ≡ file
    pub once : (s : ReadAnswer) (y : read_call.call.S κs) → janlishuk-read.Learnt κs a s y → r ≡ s

  pub read_written_out : WrittenOut
  read_written_out =
      let meets = read_call.meets in
      record {
        promise = meets.keeps_promise κs a r x told;
        answers_or_refuses = meets.answers_or_refuses κs a r x told;
        carries_only = meets.carries_only κs a r x told;
        never_writes = meets.never_writes κs a r x told;
        once = λ s y h. meets.once κs a r s x y told h;
      }

-- Demand 1 written out for `janlishuk_upload`, in the caller's own five lists: as they were lent, and as they are left.
module _ (κs : upload_call.call.K) (a : upload_call.call.A κs) where
  -- five lists one after the other, each under its own name
  abbrev by_name : Bor (List ℕ) × (Bor (List ℕ) × (MutBor (List ℕ) × (MutBor (List ℕ) × (MutBor (List ℕ) × Unit {0})))) → Lists
  by_name five =
      record {
        eastings = five.0.now;
        northings = five.1.0.now;
        heights = five.1.1.0.now;
        codes = five.1.1.1.0.now;
        refusals = five.1.1.1.1.0.now;
      }

  abbrev lent : Lists
  lent = by_name a.1.1.1

  abbrev left : upload_call.call.S κs → Lists
  left x = by_name x.1.1.1

  module _ (r : UploadAnswer) (x : upload_call.call.S κs) (told : janlishuk-upload.Learnt κs a r x) where
    pub record UploadWrittenOut : Type 0 where
      pub promise : Uploads a.0.now x.0.now a.1.0 a.1.1.0 lent (left x) r
      pub answers_or_refuses : FirstOf (of_upload a.0.now a.1.0 a.1.1.0 lent) r.refusal r.place
      pub carries_only : (r.refusal ≡ 0 → ⊥) → left x ≡ lent
      pub never_writes : x.0.now ≡ a.0.now
      pub once : (s : UploadAnswer) (y : upload_call.call.S κs) → janlishuk-upload.Learnt κs a s y → (r ≡ s) × (left x ≡ left y)

    pub upload_written_out : UploadWrittenOut
    upload_written_out =
        let d = upload_call.meets in
        record {
          promise = d.keeps_promise κs a r x told;
          answers_or_refuses = d.answers_or_refuses κs a r x told;
          carries_only = λ n. ap (λ (v : Surveyed). v.lists) (d.carries_only κs a r x told n);
          never_writes = d.never_writes κs a r x told;
          once = λ s y h. let same = d.once κs a r s x y told h in (ap (λ (v : Surveyed). v.answer) same, ap (λ (v : Surveyed). v.lists) same);
        }
