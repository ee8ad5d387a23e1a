-- Document 02, request a), sentence by sentence, and demand 2 of each point of a survey, in the caller's own fields: whatever meets the promise of an upload
-- (specs/Promise), it is as requested. From the laws of the survey, of the order of checks and of demand 2. Assumes nothing.
use mathlib.Core.Path.{◌≡◌, refl, ◌∙◌, ap}
use mathlib.Core.Logic.{◌↔◌, inl, inr}
use mathlib.Core.List.{List}
use Prim.Native.Nat.{ℕ, ◌<◌}
use lib.ListN.{length, get_or}
use Rattle.ground.specs.Outcome.{Outcome, given, refused, refusal_number, refusal_place, filled_by}
use Rattle.ground.specs.declared.point.Point.{Point}
use Rattle.ground.proofs.Laws.Outcome.{refused_is}
use Rattle.terrain.specs.Check.{checked}
use Rattle.terrain.specs.declared.check.CheckAnswer.{CheckAnswer}
use Rattle.reading.specs.Reading.{reading, read_answer}
use Rattle.reading.specs.Demand.{Readable, IsMean}
use Rattle.survey.specs.Survey.{Lists, point_count, point_at, with_answers, answer_of, upload}
use Rattle.survey.specs.declared.UploadAnswer.{UploadAnswer}
use Rattle.survey.proofs.Laws.Lists.{ListsFit, fit_passes, unfit_found, all_long, entry_at, after_last}
use Rattle.survey.proofs.Laws.Survey.{file_refused, lists_refused, lists_given, IsUpload, upload_is}
use Rattle.janlishuk.specs.Order.{FirstOf, OnGround, placed, of_point, of_upload}
use Rattle.janlishuk.specs.Promise.{Checks, Uploads}
use Rattle.janlishuk.specs.Demand.{EntryIs, FollowsReadings}
use Rattle.janlishuk.proofs.Laws.Line.{first_of, was_given}
use Rattle.janlishuk.proofs.Laws.Order.{file_order, point_order, upload_order}
use Rattle.janlishuk.proofs.Demand2.{read_exactly, reading_is_mean}

module _ (file after : List ℕ) (b z : ℕ) (lent left : Lists) (u : UploadAnswer) (uploads : Uploads file after b z lent left u) where
  -- "any of these writes nothing": a refused upload leaves all five lists as they were lent
  pub refused_writes_nothing : (u.refusal ≡ 0 → ⊥) → left ≡ lent
  refused_writes_nothing n = uploads.0.lists ∙ ap (filled_by lent) (refused_is (upload file b z lent) (rw uploads.0.answer at n))

  -- An upload that is given:
  module _ (is : u.refusal ≡ 0) where
    gave : (m : Lists) × (upload file b z lent ≡ given m)
    gave = was_given (upload_order file b z lent) (rw uploads.0.answer at is)

    given_is : IsUpload file b z lent gave.0
    given_is = upload_is file b z lent gave.0 gave.1

    whole : left ≡ with_answers (answer_of file b z lent) lent (point_count lent)
    whole = uploads.0.lists ∙ ap (filled_by lent) gave.1 ∙ given_is.is

    -- each entry is what `janlishuk_read` answers for its point
    at_entry : (i d : ℕ) → i < length lent.eastings → EntryIs left i d (answer_of file b z lent i)
    at_entry i d own =
        let fit = given_is.fit in
        let read = answer_of file b z lent in
        rw whole (record {
          height = entry_at (λ k. (read k).height) lent.heights (point_count lent) i d fit.heights own;
          code = entry_at (λ k. (read k).code) lent.codes (point_count lent) i d fit.codes own;
          refusal = entry_at (λ k. (read k).refusal) lent.refusals (point_count lent) i d fit.refusals own;
        })

    -- the number of a point's refusal is that of the first of its conditions to hold
    in_order : (p : Point) → FirstOf (of_point file b z 0 p) (refusal_number (reading file b z p)) (refusal_place (reading file b z p))
    unfolding reading
    in_order p = rw given_is.checked (first_of (point_order file b z given_is.terrain given_is.checked p))

    -- a refusal has height and code 0
    bare : (o : Outcome _) → (refusal_number o ≡ 0 → ⊥) → ((read_answer o).height ≡ 0) × ((read_answer o).code ≡ 0)
    bare (given r) n = absurd (n refl)
    bare (refused number place) n = (refl, refl)

    pub upload_follows : FollowsReadings file after b z lent left
    upload_follows =
        let read = answer_of file b z lent in
        let long = all_long read lent (point_count lent) in
        record {
          entry = λ i d own r h. rw h.0 (at_entry i d own);
          number = λ i d own r h. rw (h.0, (at_entry i d own).refusal) (in_order (point_at z lent i));
          refused = λ i d own n.
              let e = at_entry i d own in
              rw (e.height, e.code) (bare (reading file b z (point_at z lent i)) (rw e.refusal at n));
          rest = λ i d l.
              rw whole (record {
                height = after_last (λ k. (read k).height) lent.heights (point_count lent) i d l;
                code = after_last (λ k. (read k).code) lent.codes (point_count lent) i d l;
                refusal = after_last (λ k. (read k).refusal) lent.refusals (point_count lent) i d l;
              });
          long = rw whole (long.heights, (long.codes, long.refusals));
          points_stay = rw whole long.points_stay;
        }

-- "Refusals: 1, 2, 3, then 10 when the two lists of points differ in length or hold over 256, or another list is shorter", in numbers:
module _ (file after : List ℕ) (b z : ℕ) (c : CheckAnswer) (checks : Checks file after b z c)
    (lent left : Lists) (u : UploadAnswer) (uploads : Uploads file after b z lent left u) where
  -- a file that the check refuses is refused with the check's number
  pub file_first : (c.refusal ≡ 0 → ⊥) → u.refusal ≡ c.refusal
  file_first n =
      let e = refused_is (checked file b z) (rw checks.0 at n) in
      rw (uploads.0.answer, checks.0) (ap refusal_number (file_refused file b z lent e))

  -- of a file that passes, lists that do not fit are refused with 10
  pub unfit_ten : c.refusal ≡ 0 → (ListsFit lent → ⊥) → u.refusal ≡ 10
  unfit_ten p n =
      let t = was_given (file_order file b z) (rw checks.0 at p) in
      let found = unfit_found lent n in
      rw uploads.0.answer (ap refusal_number (lists_refused file b z lent t.1 found))

  -- of a file that passes, lists that fit are read
  pub fit_given : c.refusal ≡ 0 → ListsFit lent → u.refusal ≡ 0
  fit_given p fit =
      let t = was_given (file_order file b z) (rw checks.0 at p) in
      let passes = fit_passes lent fit in
      rw uploads.0.answer (ap refusal_number (lists_given file b z lent t.1 passes))

  -- the place of an upload is 0
  pub place_is_0 : u.place ≡ 0
  place_is_0 = rw uploads.0.answer (go _ _ (first_of (upload_order file b z lent)))
    where
      go : (number place : ℕ) → FirstOf (of_upload file b z lent) number place → place ≡ 0
      go number place (inl h) = h.1.1
      go number place (inr (_, inl h)) = h.1.1
      go number place (inr (_, inr (_, inl h))) = h.1.1
      go number place (inr (_, inr (_, inr (_, inl h)))) = h.1.1
      go number place (inr (_, inr (_, inr (_, inr (_, h))))) = h.1

-- Demand 2, of each point of a survey. In a file that passes the check, a point on its ground:
module _ (file after : List ℕ) (b z : ℕ) (c : CheckAnswer) (checks : Checks file after b z c) (passes : c.refusal ≡ 0)
    (lent left : Lists) (u : UploadAnswer) (uploads : Uploads file after b z lent left u) (is : u.refusal ≡ 0)
    (i : ℕ) (own : i < length lent.eastings) (on : OnGround b z (point_at z lent i)) where
  at : EntryIs left i 0 (answer_of file b z lent i)
  at = at_entry file after b z lent left u uploads is i 0 own

  -- "is read exactly when its rectangle is covered and no corner that weighs in lacks a height." Covered is one of the rectangles that it may be read from.
  pub entry_exactly : (get_or left.refusals i 0 ≡ 0) ↔ Readable file (placed b z (point_at z lent i))
  entry_exactly = rw at.refusal (read_exactly file after b z c checks passes (point_at z lent i) on _ (refl, checks.1))

  -- "The reading is the exact four-corner mean of that rectangle's own record, within its weighing corners." The record is the one taken.
  pub entry_is_mean : get_or left.refusals i 0 ≡ 0
      → IsMean file b z (point_at z lent i) (record { height = get_or left.heights i 0; code = get_or left.codes i 0 })
  entry_is_mean e =
      rw (at.height, at.code) (reading_is_mean file after b z c checks passes (point_at z lent i) on _ (refl, checks.1) (rw at.refusal at e))
