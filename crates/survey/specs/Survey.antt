-- The survey upload: many points read in one call. Document 02, request a). Assumes nothing.
use Rattle.std.specs.Prelude.{◌≡◌, ◌⊎◌, Bool, not, ◌||◌, List, ℕ, zero, suc, ◌<◌, eqb, ltb, length, get_or, set}
use Rattle.ground.specs.Outcome.{Outcome, given, unless, ◌and_then◌, refusal_number, refusal_place, filled_by}
use Rattle.ground.specs.Measure.{metres}
use Rattle.ground.specs.declared.point.Point.{Point}
use Rattle.terrain.specs.Check.{checked}
use Rattle.terrain.specs.declared.check.Terrain.{Terrain}
use Rattle.reading.specs.Reading.{reading, read_answer}
use Rattle.reading.specs.declared.point.ReadAnswer.{ReadAnswer}
use Rattle.survey.specs.declared.UploadAnswer.{UploadAnswer}

-- the lists that a caller lends: two of eastings and northings, and three for heights, codes and refusal numbers
pub record Lists : Type 0 where
  pub eastings : List ℕ
  pub northings : List ℕ
  pub heights : List ℕ
  pub codes : List ℕ
  pub refusals : List ℕ

-- five lists as one value
abbrev pub five_lists : (eastings northings heights codes refusals : List ℕ) → Lists
five_lists eastings northings heights codes refusals =
    record { eastings = eastings; northings = northings; heights = heights; codes = codes; refusals = refusals }

-- "up to 256 points"
abbrev pub most_points : ℕ
most_points = 256

-- how many points there are
abbrev pub point_count : Lists → ℕ
point_count l = length l.eastings

-- point i of two lists, in zone z
abbrev pub point_of : ℕ → (eastings northings : List ℕ) → ℕ → Point
point_of z eastings northings i = record { zone = z; easting = metres (get_or eastings i 0); northing = metres (get_or northings i 0) }

-- point i of the lent lists, in the file's zone z
abbrev pub point_at : ℕ → Lists → ℕ → Point
point_at z l i = point_of z l.eastings l.northings i

-- 10: "the two lists of points differ in length or hold over 256, or another list is shorter"
abbrev pub Unfit : Lists → Type 0
Unfit l =
    (length l.northings ≡ point_count l → ⊥)
    ⊎ ((most_points < point_count l) ⊎ ((length l.heights < point_count l) ⊎ ((length l.codes < point_count l) ⊎ (length l.refusals < point_count l))))

-- whether lists of these five lengths do not fit
abbrev pub unfit_lengths : (eastings northings heights codes refusals : ℕ) → Bool
unfit_lengths eastings northings heights codes refusals =
    not (eqb northings eastings) || (ltb most_points eastings || (ltb heights eastings || (ltb codes eastings || ltb refusals eastings)))

-- whether the lists do not fit: the test of 10
unfoldable pub unfit : Lists → Bool
unfit l = unfit_lengths (point_count l) (length l.northings) (length l.heights) (length l.codes) (length l.refusals)

-- a list with its first k entries written, each with what is given for it; all other entries keep their content
unfoldable pub written : (ℕ → ℕ) → List ℕ → (k : ℕ) → List ℕ
written entry list zero = list
written entry list (suc i) = set (written entry list i) i (entry i)

-- the lists with the answers to the first k points, each in its own entry
abbrev pub with_answers : (ℕ → ReadAnswer) → Lists → (k : ℕ) → Lists
with_answers answer l k =
    record {
      eastings = l.eastings;
      northings = l.northings;
      heights = written (λ i. (answer i).height) l.heights k;
      codes = written (λ i. (answer i).code) l.codes k;
      refusals = written (λ i. (answer i).refusal) l.refusals k;
    }

-- what an entry holds: "just what the single reading gives"
abbrev pub answer_of : List ℕ → ℕ → ℕ → Lists → ℕ → ReadAnswer
answer_of file b z l i = read_answer (reading file b z (point_at z l i))

-- 1, 2, 3 for the file, then 10 where the lists do not fit, else the file that passed
abbrev pub admitted : List ℕ → ℕ → ℕ → (unfit : Bool) → Outcome Terrain
admitted file b z unfit = checked file b z and_then λ t. unless unfit 10 (given t)

-- the upload: 1, 2, 3 or 10, else what the lists hold afterwards
unfoldable pub upload : List ℕ → ℕ → ℕ → Lists → Outcome Lists
upload file b z l = admitted file b z (unfit l) and_then λ t. given (with_answers (answer_of file b z l) l (point_count l))

-- the answer of `janlishuk_upload` as the caller gets it
abbrev pub upload_answer : {A : Type 0} → Outcome A → UploadAnswer
upload_answer o = record { refusal = refusal_number o; place = refusal_place o }

-- what an upload leaves: the answer, and the lists as the caller gets them back; a refusal "writes nothing"
pub record Uploaded (file : List ℕ) (b z : ℕ) (before after : Lists) (r : UploadAnswer) : Type 0 where
  pub answer : r ≡ upload_answer (upload file b z before)
  pub lists : after ≡ filled_by before (upload file b z before)
