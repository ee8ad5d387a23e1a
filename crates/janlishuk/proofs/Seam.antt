-- Document 02, request b), changed no answer but refusal 5: whatever a call was given before, from the record of each point's own rectangle alone, and
-- every other refusal, it is given still; and a point that was refused with 5 is now read as the first covered of the rectangles beside its own says. From
-- the laws of the record taken and of the reading. Assumes nothing.
use mathlib.Core.Path.{◌≡◌, refl, ◌∙◌, ap}
use mathlib.Core.Bool.{Bool, true, false}
use mathlib.Core.List.{List}
use Prim.Native.Nat.{ℕ, zero, suc, ◌+◌, ◌<◌}
use native.Mathlib.Omega.{arith}
use lib.ListN.{length}
use denote.Ref.{Bor}
use Rattle.ground.specs.Outcome.{Outcome, given, refused, ◌and_then◌, refusal_number}
use Rattle.ground.specs.Place.{number, located}
use Rattle.ground.specs.Seam.{beside}
use Rattle.ground.specs.declared.point.Point.{Point}
use Rattle.ground.specs.declared.place.Place.{Place}
use Rattle.terrain.specs.Check.{checked}
use Rattle.terrain.specs.Record.{covered, first_covered, taken, taken_before, record_in, record_for, RecordPart}
use Rattle.terrain.specs.declared.check.Terrain.{Terrain}
use Rattle.terrain.specs.declared.check.CheckAnswer.{CheckAnswer}
use Rattle.terrain.specs.declared.record.Taken.{Taken}
use Rattle.terrain.proofs.Laws.Checked.{checked_is}
use Rattle.terrain.proofs.Laws.Taken.{taken_as_before}
use Rattle.reading.specs.Reading.{read_taken, point_in, reading, read_answer}
use Rattle.reading.specs.Engine.{engine, engine_means}
use Rattle.reading.specs.declared.point.Reading.{Reading}
use Rattle.reading.specs.declared.point.ReadAnswer.{ReadAnswer}
use Rattle.std.specs.Prelude.{Result}
use Rattle.ground.specs.declared.refusal.Refusal.{Refusal}
use Rattle.reading.specs.declared.engine.EnginePoint.{EnginePoint}
use Rattle.reading.proofs.Laws.Reading.{at_place}
use Rattle.survey.specs.Survey.{Lists, point_at}
use Rattle.survey.specs.declared.UploadAnswer.{UploadAnswer}
use Rattle.path.specs.Path.{path_on, sample, ask_path, ask_masts, ask_sample}
use Rattle.path.specs.declared.Asked.{Asked}
use Rattle.profile.specs.Profile.{Link, put, at_sample, up_to, profile_by, link_in, linked, profile, profile_answer}
use Rattle.profile.specs.Row.{row_of, row, row_answer}
use Rattle.profile.specs.declared.ProfileAnswer.{ProfileAnswer}
use Rattle.profile.specs.declared.row.RowAnswer.{RowAnswer}
use Rattle.link.specs.Clear.{clear, verdict, verdict_answer}
use Rattle.link.specs.declared.clear.VerdictAnswer.{VerdictAnswer}
use Rattle.plan.specs.Plan.{Plan}
use Rattle.plan.specs.declared.PlanAnswer.{PlanAnswer}
use Rattle.janlishuk.specs.Engine.{engine_answer}
use Rattle.janlishuk.specs.declared.point.EngineAnswer.{EngineAnswer}
use Rattle.janlishuk.specs.Order.{OnGround, placed}
use Rattle.janlishuk.specs.Promise.{Checks, Reads, Uploads, HandsBack, Tells, Shows, Profiles, Judges, Plans, GivesRow}
use Rattle.janlishuk.specs.Demand.{EntryIs}
use Rattle.janlishuk.specs.Before.{record_before, point_before, reading_before, linked_before}
use Rattle.janlishuk.proofs.Laws.Line.{was_given}
use Rattle.janlishuk.proofs.Laws.Order.{on_ground_lem, file_order}
use Rattle.janlishuk.proofs.Survey.{upload_follows}

-- what something comes to now is what it came to before, unless that was refusal 5
abbrev Keeps : {A : Type 0} → (before now : Outcome A) → Type 0
Keeps before now = (refusal_number before ≡ 5 → ⊥) → now ≡ before

-- steps that keep what they come to keep it together
steps_keep : {A B : Type 0} (o n : Outcome A) (f g : A → Outcome B) → Keeps o n → ((a : A) → Keeps (f a) (g a)) → Keeps (o and_then f) (n and_then g)
steps_keep (given a) n f g first then not5 = rw (first (λ e. omega arith)) (then a not5)
steps_keep (refused number place) n f g first then not5 = rw (first not5)

-- what has not changed keeps what it comes to
same : {A : Type 0} (o : Outcome A) → Keeps o o
same o not5 = refl

-- a step that has not changed, before one that keeps what it comes to
then_keeps : {A B : Type 0} (o : Outcome A) {f g : A → Outcome B} → ((a : A) → Keeps (f a) (g a)) → Keeps (o and_then f) (o and_then g)
then_keeps o = steps_keep o o _ _ (same o)

-- the record taken at a place
taken_keeps : (file : List ℕ) (s : Place) → Keeps (taken_before file s) (taken file s)
taken_keeps file s = go (covered file (number s.rectangle)) refl
  where
    go : (c : Bool) → covered file (number s.rectangle) ≡ c → Keeps (taken_before file s) (taken file s)
    go true c not5 = (taken_as_before file s).stays c
    go false c not5 = absurd (not5 (ap refusal_number ((taken_as_before file s).was c)))

-- a reading at a sample
sample_keeps : (i : ℕ) (o n : Outcome Reading) → Keeps o n → Keeps (at_sample i o) (at_sample i n)
sample_keeps i (given r) n k not5 = rw (k not5)
sample_keeps i (refused number place) n k not5 = rw (k not5)

-- the readings at samples, one after the other
samples_keep : (f g : ℕ → Outcome Reading) (n k : ℕ) → ((i : ℕ) → Keeps (f i) (g i)) → Keeps (up_to f n k) (up_to g n k)
unfolding up_to
samples_keep f g n zero keep = same (up_to f n zero)
samples_keep f g n (suc i) keep =
    steps_keep (up_to f n i) (up_to g n i) _ _ (samples_keep f g n i keep) λ p.
    steps_keep (at_sample i (f i)) (at_sample i (g i)) _ _ (sample_keeps i (f i) (g i) (keep i)) λ r. same (given (put p i r))

module _ (file : List ℕ) (b z : ℕ) where
  -- the record of a point of a checked file
  record_in_keeps : (t : Terrain) (p : Point) → Keeps (located t.ground p and_then taken_before file) (record_in file t p)
  unfolding record_in
  record_in_keeps t p = then_keeps (located t.ground p) (taken_keeps file)

  -- the record of a point
  record_keeps : (p : Point) → Keeps (record_before file b z p) (record_for file b z p)
  unfolding record_for
  record_keeps p = then_keeps (checked file b z) λ t. record_in_keeps t p

  -- the reading of a point of a checked file
  point_keeps : (t : Terrain) (p : Point) → Keeps (point_before file t p) (point_in file t p)
  unfolding point_in
  point_keeps t p =
      steps_keep (located t.ground p and_then taken_before file) (record_in file t p) (read_taken file) (read_taken file) (record_in_keeps t p) λ u.
      same (read_taken file u)

  -- the reading of a point
  reading_keeps : (p : Point) → Keeps (reading_before file b z p) (reading file b z p)
  unfolding reading
  reading_keeps p = then_keeps (checked file b z) λ t. point_keeps t p

  -- the path of a call with its profile
  linked_keeps : (asked : Asked) → Keeps (linked_before file b z asked) (linked file b z asked)
  unfolding linked link_in
  linked_keeps asked =
      then_keeps (checked file b z) λ t.
      then_keeps (path_on t.ground asked) λ w.
      let before : ℕ → Outcome Reading = λ i. point_before file t (sample w i) in
      let now : ℕ → Outcome Reading = λ i. point_in file t (sample w i) in
      steps_keep (profile_by before w.n) (profile_by now w.n) _ _ (samples_keep before now w.n (w.n + 1) λ i. point_keeps t (sample w i)) λ p.
      same (given (record { path = w; profile = p }))

-- Of whatever meets the promises, unless what it came to before was refusal 5:
module _ (file after : List ℕ) (b z : ℕ) (p : Point) (not5 : refusal_number (reading_before file b z p) ≡ 5 → ⊥) where
  pub read_stays : (r : ReadAnswer) → Reads file after b z p r → r ≡ read_answer (reading_before file b z p)
  read_stays r h = h.0 ∙ ap read_answer (reading_keeps file b z p not5)

  pub enum_stays : (r : Result EnginePoint Refusal) → Tells file after b z p r → engine_means r ≡ engine (reading_before file b z p)
  enum_stays r h = h.0 ∙ ap engine (reading_keeps file b z p not5)

  pub struct_stays : (r : EngineAnswer) → Shows file after b z p r → r ≡ engine_answer (engine (reading_before file b z p))
  struct_stays r h = h.0 ∙ ap (λ (o : Outcome Reading). engine_answer (engine o)) (reading_keeps file b z p not5)

-- entry i of an upload that is given
pub entry_stays : (file after : List ℕ) (b z : ℕ) (lent left : Lists) (u : UploadAnswer) → Uploads file after b z lent left u → u.refusal ≡ 0 → (i d : ℕ)
    → i < length lent.eastings → (refusal_number (reading_before file b z (point_at z lent i)) ≡ 5 → ⊥)
    → EntryIs left i d (read_answer (reading_before file b z (point_at z lent i)))
entry_stays file after b z lent left u uploads is i d own not5 =
    rw (← reading_keeps file b z (point_at z lent i) not5) ((upload_follows file after b z lent left u uploads is).entry i d own _ (refl, uploads.1))

-- a record that is handed back
pub record_stays : (f g r : Bor (List ℕ)) (b z : ℕ) (p : Point) → HandsBack f g b z p r → (refusal_number (record_before f.now b z p) ≡ 5 → ⊥)
    → RecordPart f r (record_before f.now b z p)
record_stays f g r b z p h not5 = rw (record_keeps f.now b z p not5) at h.0

-- the calls on a path
module _ (file after : List ℕ) (b z : ℕ) (p q : Point) where
  abbrev Not5 : Asked → Type 0
  Not5 asked = refusal_number (linked_before file b z asked) ≡ 5 → ⊥

  pub profile_stays : Not5 (ask_path p q) → (r : ProfileAnswer) → Profiles file after b z p q r
      → r ≡ profile_answer (linked_before file b z (ask_path p q) and_then λ l. given l.profile)
  unfolding profile
  profile_stays not5 r h = h.0 ∙ ap (λ (o : Outcome Link). profile_answer (o and_then λ l. given l.profile)) (linked_keeps file b z (ask_path p q) not5)

  pub verdict_stays : (ma mb : ℕ) → Not5 (ask_masts p q ma mb) → (r : VerdictAnswer) → Judges file after b z p q ma mb r
      → r ≡ verdict_answer (linked_before file b z (ask_masts p q ma mb) and_then λ l. given (clear l ma mb))
  unfolding verdict
  verdict_stays ma mb not5 r h =
      h.0 ∙ ap (λ (o : Outcome Link). verdict_answer (o and_then λ l. given (clear l ma mb))) (linked_keeps file b z (ask_masts p q ma mb) not5)

  pub plan_stays : (la lb : ℕ) → Not5 (ask_masts p q la lb) → (r : PlanAnswer) → Plans file after b z p q la lb r
      → Plan (linked_before file b z (ask_masts p q la lb)) la lb r
  plan_stays la lb not5 r h = rw (linked_keeps file b z (ask_masts p q la lb) not5) at h.0

  pub row_stays : (i : ℕ) → Not5 (ask_sample p q i) → (r : RowAnswer) → GivesRow file after b z p q i r
      → r ≡ row_answer (linked_before file b z (ask_sample p q i) and_then λ l. given (row_of l i))
  unfolding row
  row_stays i not5 r h = h.0 ∙ ap (λ (o : Outcome Link). row_answer (o and_then λ l. given (row_of l i))) (linked_keeps file b z (ask_sample p q i) not5)

-- A point of the file's zone and on its ground, in a file that passes the check, whose own rectangle is not covered: it was refused with 5, and is now read from
-- the first covered of the rectangles beside its own that it may be read from, or refused with 5 where there is none.
module _ (file after : List ℕ) (b z : ℕ) (c : CheckAnswer) (checks : Checks file after b z c) (passes : c.refusal ≡ 0) (p : Point) (on : OnGround b z p)
    (bare : covered file (number (placed b z p).rectangle) ≡ false) where
  pub was_5 : reading_before file b z p ≡ refused 5 0
  was_5 =
      let t = was_given (file_order file b z) (rw checks.0 at passes) in
      let is = (checked_is file b z t.0 t.1).opened.is in
      simp (t.1, is, (on_ground_lem b z p).1 on, (taken_as_before file (placed b z p)).was bare)

  pub read_beside : (r : ReadAnswer) → Reads file after b z p r → r ≡ read_answer (first_covered file (beside (placed b z p)) and_then read_taken file)
  read_beside r h =
      let t = was_given (file_order file b z) (rw checks.0 at passes) in
      h.0
      ∙ ap read_answer (at_place file b z t.0 t.1 p ((on_ground_lem b z p).1 on) ∙ ap (λ (o : Outcome Taken). o and_then read_taken file) ((taken_as_before file (placed b z p)).is bare))
