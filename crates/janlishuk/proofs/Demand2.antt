-- Demand 2, sentence by sentence, in the caller's own fields: whatever answers meet the promises (specs/Promise), they are as demanded. From the laws of the
-- crates and of the order of checks. Assumes nothing.
use mathlib.Core.Path.{◌≡◌, refl, ◌∙◌, ap}
use mathlib.Core.Logic.{◌⊎◌, inl, inr, ◌↔◌}
use mathlib.Core.Bool.{Bool, true, false, cond, false≢true}
use mathlib.Core.List.{List}
use Prim.Native.Nat.{ℕ, ◌+◌, ◌≤◌, ◌<◌}
use native.Mathlib.Omega.{arith}
use Rattle.ground.specs.Outcome.{Outcome, given, refused, refusal_number}
use Rattle.ground.specs.declared.point.Point.{Point}
use Rattle.ground.proofs.Laws.Outcome.{refused_is, step}
use Rattle.terrain.specs.Check.{checked}
use Rattle.terrain.specs.declared.check.Terrain.{Terrain}
use Rattle.terrain.specs.declared.check.CheckAnswer.{CheckAnswer}
use Rattle.reading.specs.Reading.{reading, read_answer}
use Rattle.reading.specs.Demand.{Readable, IsMean}
use Rattle.reading.specs.declared.point.Reading.{Reading}
use Rattle.reading.specs.declared.point.ReadAnswer.{ReadAnswer}
use Rattle.reading.proofs.Laws.Reading as reading-law
use Rattle.path.specs.Path.{Q, N, asking, ask_path, path_of, sample, along, farthest}
use Rattle.path.proofs.Laws.Steps.{N_is}
use Rattle.profile.specs.Profile.{Profile, Link, linked, profile, profile_answer}
use Rattle.profile.specs.Row.{row}
use Rattle.profile.specs.declared.ProfileAnswer.{ProfileAnswer}
use Rattle.profile.specs.declared.row.RowAnswer.{RowAnswer}
use Rattle.profile.proofs.Laws.Profile.{Filled, one_refused, all_read}
use Rattle.profile.proofs.Laws.Link as profile-law
use Rattle.profile.proofs.Laws.Link.{same_link, by_samples, profile_given, profile_at}
use Rattle.link.specs.Clear.{clear, verdict, verdict_answer}
use Rattle.link.specs.declared.clear.VerdictAnswer.{VerdictAnswer}
use Rattle.plan.specs.declared.PlanAnswer.{PlanAnswer}
use Rattle.plan.proofs.Laws.Plan.{plan_is}
use Rattle.link.proofs.Laws.Rounding.{exactly_clear}
use Rattle.link.proofs.Laws.Demands.{clear_exactly, verdict_given}
use Rattle.janlishuk.specs.Order.{OnGround, placed}
use Rattle.janlishuk.specs.Promise.{Checks, Reads, Profiles, Judges, Plans, GivesRow}
use Rattle.janlishuk.specs.Demand.{sample_at, FollowsSamples, FollowsTest, ExactlyClear}
use Rattle.janlishuk.proofs.Laws.Line.{was_given}
use Rattle.janlishuk.proofs.Laws.Order.{on_ground_lem, file_order, reading_order, profile_order, verdict_order, plan_order, row_order}

-- a verdict's number
abbrev one_if : Bool → ℕ
one_if t = cond t 1 0

-- a verdict's number is 1 exactly if the path is clear
pub number_is : (t : Bool) → (one_if t ≡ 1) ↔ (t ≡ true)
number_is true = ((λ e. refl), λ e. refl)
number_is false = ((λ e. absurd (omega arith)), λ e. absurd (false≢true e))

-- a verdict's number is 0 or 1
one_number : (t : Bool) → (one_if t ≡ 0) ⊎ (one_if t ≡ 1)
one_number true = inr refl
one_number false = inl refl

-- In a file that passes the check:
module _ (file after : List ℕ) (b z : ℕ) (c : CheckAnswer) (checks : Checks file after b z c) (passes : c.refusal ≡ 0) where
  terrain : (t : Terrain) × (checked file b z ≡ given t)
  terrain = was_given (file_order file b z) (rw checks.0 at passes)

  -- A point of the file's zone and on its ground:
  module _ (p : Point) (on : OnGround b z p) (r : ReadAnswer) (reads : Reads file after b z p r) where
    -- "is read exactly when its rectangle is covered and no corner that weighs in lacks a height." Covered is one of the rectangles that it may be read from.
    pub read_exactly : (r.refusal ≡ 0) ↔ Readable file (placed b z p)
    read_exactly =
        let law = reading-law.read_exactly file b z terrain.0 terrain.1 p ((on_ground_lem b z p).1 on) in
        rw reads.0 ((λ e. law.0 (was_given (reading_order file b z p) e)), λ k. ap refusal_number (law.1 k).1)

    -- "The reading is the exact four-corner mean of that rectangle's own record, within its weighing corners." The record is the one taken.
    pub reading_is_mean : r.refusal ≡ 0 → IsMean file b z p (record { height = r.height; code = r.code })
    reading_is_mean e =
        let g = was_given (reading_order file b z p) (rw reads.0 at e) in
        rw (reads.0, g.1) (reading-law.read_mean file b z terrain.0 terrain.1 p ((on_ground_lem b z p).1 on) g.0 g.1)

  -- A profile of two such points that are neither the same nor too far apart is given exactly when every sample is read.
  module _ (p q : Point) (hp : OnGround b z p) (hq : OnGround b z q) (some : 1 ≤ Q p q) (most : Q p q ≤ farthest)
      (pr : ProfileAnswer) (profiles : Profiles file after b z p q pr) where
    pub profile_exactly : (pr.refusal ≡ 0)
        ↔ ((i : ℕ) → i ≤ N (Q p q) → (r : ReadAnswer) → Reads file after b z (sample (path_of p q) i) r → r.refusal ≡ 0)
    profile_exactly =
        let law = profile-law.profile_exactly file b z terrain.0 terrain.1 p q ((on_ground_lem b z p).1 hp) ((on_ground_lem b z q).1 hq) some most in
        rw profiles.0 (
          (λ e i l r h. rw h.0 (ap refusal_number (law.0 (was_given (profile_order file b z p q) e) i l).1)),
          λ f. ap refusal_number (law.1 (λ i l. was_given (reading_order file b z (sample (path_of p q) i)) (f i l _ (refl, checks.1)))).1,
        )

    -- A profile is refused as the first of its samples that is refused, with that sample's number for its place.
    pub profile_refused : (i : ℕ) → i ≤ N (Q p q)
        → ((j : ℕ) → j < i → (r : ReadAnswer) → Reads file after b z (sample (path_of p q) j) r → r.refusal ≡ 0)
        → (r : ReadAnswer) → Reads file after b z (sample (path_of p q) i) r → (r.refusal ≡ 0 → ⊥)
        → (pr.refusal ≡ r.refusal) × (pr.place ≡ i)
    profile_refused i l before r reads not0 =
        let by = by_samples file b z terrain.0 terrain.1 p q ((on_ground_lem b z p).1 hp) ((on_ground_lem b z q).1 hq) some most in
        let reader : ℕ → Outcome Reading = λ k. reading file b z (sample (path_of p q) k) in
        let read = all_read reader (N (Q p q)) i λ j m. was_given (reading_order file b z (sample (path_of p q) j)) (before j m _ (refl, checks.1)) in
        let refusal = refused_is (reader i) (rw reads.0 at not0) in
        let e = by ∙ one_refused reader (N (Q p q)) l read.1 refusal in
        rw (profiles.0, reads.0, e) (refl, refl)

-- Document 01: verdict, plan and row are given only where the whole profile is.
module _ (file after : List ℕ) (b z : ℕ) (p q : Point) (pr : ProfileAnswer) (profiles : Profiles file after b z p q pr) where
  linked_only : (ma mb i : ℕ) (l : Link) → linked file b z (asking p q ma mb i) ≡ given l → pr.refusal ≡ 0
  linked_only ma mb i l e = rw profiles.0 (ap refusal_number (profile_given file b z (asking p q ma mb i) l e))

  pub verdict_only : (ma mb : ℕ) (v : VerdictAnswer) → Judges file after b z p q ma mb v → v.refusal ≡ 0 → pr.refusal ≡ 0
  unfolding verdict
  verdict_only ma mb v h e =
      let t = was_given (verdict_order file b z p q ma mb) (rw h.0 at e) in
      let s = step (linked file b z (asking p q ma mb 0)) _ t.0 t.1 in
      linked_only ma mb 0 s.value s.gave

  pub plan_only : (la lb : ℕ) (r : PlanAnswer) → Plans file after b z p q la lb r → r.refusal ≡ 0 → pr.refusal ≡ 0
  plan_only la lb r h e =
      let t = was_given (plan_order file b z p q la lb) (rw (plan_is file b z p q la lb r h.0) at e) in
      let s = step (linked file b z (asking p q la lb 0)) _ t.0 t.1 in
      linked_only la lb 0 s.value s.gave

  pub row_only : (i : ℕ) (r : RowAnswer) → GivesRow file after b z p q i r → r.refusal ≡ 0 → pr.refusal ≡ 0
  unfolding row
  row_only i r h e =
      let t = was_given (row_order file b z p q i) (rw h.0 at e) in
      let s = step (linked file b z (asking p q 0 0 i)) _ t.0 t.1 in
      linked_only 0 0 i s.value s.gave

  -- Where the profile is refused, verdict, plan and row have its number and place, if what they are asked with besides is within its bounds.
  module _ (not0 : pr.refusal ≡ 0 → ⊥) where
    linked_refused : (ma mb i : ℕ) → ma ≤ 100 → mb ≤ 100 → i ≤ N (Q p q) → linked file b z (asking p q ma mb i) ≡ refused pr.refusal pr.place
    unfolding profile
    linked_refused ma mb i la lb li =
        same_link file b z (asking p q ma mb i) (record { a = la; b = lb; i = li }) ∙ go (linked file b z (ask_path p q)) refl
      where
        go : (o : Outcome Link) → linked file b z (ask_path p q) ≡ o → linked file b z (ask_path p q) ≡ refused pr.refusal pr.place
        go (given l) e = absurd (not0 (rw (profiles.0, e) refl))
        go (refused number place) e = e ∙ rw (profiles.0, e) refl

    pub verdict_refused : (ma mb : ℕ) → ma ≤ 100 → mb ≤ 100 → (v : VerdictAnswer) → Judges file after b z p q ma mb v
        → (v.refusal ≡ pr.refusal) × (v.place ≡ pr.place)
    unfolding verdict
    verdict_refused ma mb la lb v h = rw (h.0, linked_refused ma mb 0 la lb (omega arith)) (refl, refl)

    pub plan_refused : (la lb : ℕ) → la ≤ 100 → lb ≤ 100 → (r : PlanAnswer) → Plans file after b z p q la lb r
        → (r.refusal ≡ pr.refusal) × (r.place ≡ pr.place)
    plan_refused la lb ha hb r h = rw (plan_is file b z p q la lb r h.0, linked_refused la lb 0 ha hb (omega arith)) (refl, refl)

    pub row_refused : (i : ℕ) → i ≤ N (Q p q) → (r : RowAnswer) → GivesRow file after b z p q i r → (r.refusal ≡ pr.refusal) × (r.place ≡ pr.place)
    unfolding row
    row_refused i l r h = rw (h.0, linked_refused 0 0 i (omega arith) (omega arith) l) (refl, refl)

-- "Profiles and clear verdicts follow 01 sample by sample." Of a path whose profile is given:
module _ (file after : List ℕ) (b z : ℕ) (p q : Point) (pr : ProfileAnswer) (profiles : Profiles file after b z p q pr) (is : pr.refusal ≡ 0) where
  pub profiled : (o : Profile) × (profile file b z p q ≡ given o)
  profiled = was_given (profile_order file b z p q) (rw profiles.0 at is)

  shown : pr ≡ profile_answer (given profiled.0)
  shown = profiles.0 ∙ ap profile_answer profiled.1

  filled : Filled (λ i. reading file b z (sample (path_of p q) i)) (N (Q p q)) (N (Q p q) + 1) profiled.0
  filled = profile_at file b z p q profiled.0 profiled.1

  steps : pr.n ≡ N (Q p q)
  steps = rw shown filled.steps

  at_sample_lem : (i : ℕ) → sample_at p q pr.n i ≡ sample (path_of p q) i
  unfolding sample along
  at_sample_lem i = rw steps

  -- a profile that is given follows document 01 sample by sample
  pub profile_follows : FollowsSamples file after b z p q pr
  profile_follows =
      record {
        least = rw steps (N_is (Q p q));
        sample = λ i l r h. rw shown (h.0 ∙ ap read_answer (ap (reading file b z) (at_sample_lem i) ∙ filled.at i (omega (arith, steps))));
        unused = λ i l.
            let none = filled.rest i (omega (arith, steps)) in
            rw shown (ap (λ (r : Reading). r.height) none, ap (λ (r : Reading). r.code) none);
        places = rw shown filled.long;
      }

  -- the path with the profile
  abbrev pub link : Link
  link = record { path = path_of p q; profile = profiled.0 }

  -- A verdict on masts of 0 to 100 m:
  module _ (ma mb : ℕ) (ha : ma ≤ 100) (hb : mb ≤ 100) (v : VerdictAnswer) (judges : Judges file after b z p q ma mb v) where
    pub judged : v ≡ verdict_answer (given (clear link ma mb))
    judged = judges.0 ∙ ap verdict_answer (verdict_given file b z p q profiled.0 profiled.1 ha hb)

    -- a verdict on a path whose profile is given follows document 01's test at every sample
    pub verdict_follows : FollowsTest p q pr ma mb v
    verdict_follows =
        let number = number_is (clear link ma mb) in
        let test = clear_exactly link ma mb in
        record {
          given = rw judged (refl, refl);
          either = rw judged (one_number (clear link ma mb));
          clear = rw (shown, filled.steps) (rw judged ((λ e. test.0 (number.0 e)), λ t. number.1 (test.1 t)));
        }

    pub clears : v.clear ≡ 1 → clear link ma mb ≡ true
    clears e = (number_is (clear link ma mb)).0 (rw judged at e)

    -- Rounding of heights may only ever make a path look worse: one that is said to be clear is clear by the same test without any rounding.
    pub rounding_only_worse : v.clear ≡ 1 → (i : ℕ) → 1 ≤ i → i < pr.n → ExactlyClear p q pr ma mb i
    rounding_only_worse e = rw (shown, filled.steps) (exactly_clear link ma mb (clears e))
