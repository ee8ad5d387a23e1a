-- The answer to a point of a checked file, whose numbers fit a byte and which is the single reading's; and what an upload leaves. From the laws of the record
-- taken, of the reading and of the lists. Assumes nothing.
use mathlib.Core.Path.{◌≡◌, refl, ◌∙◌}
use mathlib.Core.Bool.{true, false}
use mathlib.Core.List.{List}
use Prim.Native.Nat.{ℕ}
use native.Mathlib.Omega.{arith}
use lib.Dec.{lit≤}
use Rattle.ground.specs.Outcome.{Outcome, given, refused}
use Rattle.ground.specs.declared.point.Point.{Point}
use Rattle.ground.proofs.Laws.Outcome.{past, step}
use Rattle.terrain.specs.Check.{checked, Gave}
use Rattle.terrain.specs.declared.check.Terrain.{Terrain}
use Rattle.terrain.proofs.Laws.Checked.{checked_is}
use Rattle.reading.specs.Reading.{point_in, reading, read_answer}
use Rattle.reading.specs.declared.point.Reading.{Reading}
use Rattle.reading.proofs.Laws.Reading.{read_within}
use Rattle.reading.proofs.Laws.Answer.{Numbered, point_numbered}
use Rattle.survey.specs.Survey.{Lists, point_count, unfit, with_answers, answer_of, admitted, upload, Uploaded}
use Rattle.survey.specs.Inside.{InBytes, answer_in, HasAnswers}
use Rattle.survey.proofs.Laws.Lists.{ListsFit, fits}

-- code and refusal of a point of a checked file, read or not, fit a byte
pub in_bytes : {file : List ℕ} {t : Terrain} (p : Point) → Gave file t → InBytes (read_answer (point_in file t p))
in_bytes {file} {t} p g = go (point_in file t p) refl (point_numbered file t p)
  where
    go : (o : Outcome Reading) → point_in file t p ≡ o → Numbered o → InBytes (read_answer o)
    go (given r) e n = (omega (arith, (read_within p g e).1), lit≤ tt)
    go (refused number place) e n = (lit≤ tt, omega arith)

-- in a file that passed, each entry is the single reading's
pub entry_is : (file : List ℕ) (b z : ℕ) (t : Terrain) → checked file b z ≡ given t → (l : Lists) (i : ℕ) → answer_in file t l i ≡ answer_of file b z l i
unfolding reading
entry_is file b z t c l i = simp (c, (checked_is file b z t c).opened.is)

-- What an upload comes to:
module _ (file : List ℕ) (b z : ℕ) (l : Lists) where
  -- the file's own refusal
  pub file_refused : {number place : ℕ} → checked file b z ≡ refused number place → upload file b z l ≡ refused number place
  unfolding upload
  file_refused e = simp e

  -- of a file that passes, 10 for lists that do not fit
  pub lists_refused : {t : Terrain} → checked file b z ≡ given t → unfit l ≡ true → upload file b z l ≡ refused 10 0
  unfolding upload
  lists_refused e f = simp (e, f)

  -- of a file that passes, the lists with the answers where they fit
  pub lists_given : {t : Terrain} → checked file b z ≡ given t → unfit l ≡ false
      → upload file b z l ≡ given (with_answers (answer_of file b z l) l (point_count l))
  unfolding upload
  lists_given e f = simp (e, f)

  -- an upload that is refused leaves the lists as they were
  pub upload_refused : {number : ℕ} → admitted file b z (unfit l) ≡ refused number 0 → Uploaded file b z l l (record { refusal = number; place = 0 })
  unfolding upload
  upload_refused e = record { answer = simp e; lists = simp e }

  -- where file and lists are admitted, the file passed and the lists fit
  pub admitted_is : {t : Terrain} → admitted file b z (unfit l) ≡ given t → (checked file b z ≡ given t) × (unfit l ≡ false)
  admitted_is {t} e =
      let s = step (checked file b z) _ t e in
      let p = past (unfit l) 10 _ t s.then in
      (s.gave ∙ p.1, p.0)

  -- an upload that is given leaves the answers to all points
  pub upload_given : {t : Terrain} {m : Lists} → admitted file b z (unfit l) ≡ given t → HasAnswers file t l m
      → Uploaded file b z l m (record { refusal = 0; place = 0 })
  unfolding upload
  upload_given {t} {m} e has =
      record {
        answer = simp e;
        lists = simp e (has ∙ λ k. with_answers (λ i. entry_is file b z t (admitted_is e).0 l i k) l (point_count l));
      }

-- an upload that is given: the file passed, the lists fit, and they hold the answers to all points
pub record IsUpload (file : List ℕ) (b z : ℕ) (l m : Lists) : Type 0 where
  pub terrain : Terrain
  pub checked : checked file b z ≡ given terrain
  pub fit : ListsFit l
  pub is : m ≡ with_answers (answer_of file b z l) l (point_count l)

-- an upload that is given is what `IsUpload` says
pub upload_is : (file : List ℕ) (b z : ℕ) (l m : Lists) → upload file b z l ≡ given m → IsUpload file b z l m
unfolding upload
upload_is file b z l m e =
    let s = step (admitted file b z (unfit l)) _ m e in
    let a = admitted_is file b z l s.gave in
    record { terrain = s.value; checked = a.0; fit = fits l a.1; is = cc s.then }
