-- The profile of a path. Document 01, "A path" and "The numbers we say no with". Assumes nothing.
use Rattle.std.specs.Prelude.{ℕ, zero, suc, ◌+◌, List, get_or, set, replicate, Result, Ok, Err, ⊤}
use Rattle.ground.specs.Outcome.{Outcome, given, refused, ◌and_then◌, refusal_number, refusal_place, filled_by}
use Rattle.ground.specs.Refusal.{number}
use Rattle.ground.specs.declared.point.Point.{Point}
use Rattle.terrain.specs.Check.{checked}
use Rattle.reading.specs.Reading.{point_in}
use Rattle.terrain.specs.declared.check.Terrain.{Terrain}
use Rattle.reading.specs.declared.point.Reading.{Reading}
use Rattle.path.specs.Path.{ask_path, sample, path_on}
use Rattle.path.specs.declared.Path.{Path}
use Rattle.path.specs.declared.Asked.{Asked}
use Rattle.profile.specs.declared.samples.PathRefusal.{PathRefusal}
use Rattle.profile.specs.declared.samples.Samples.{Samples}
use Rattle.profile.specs.declared.ProfileAnswer.{ProfileAnswer}

-- one value with room for 201 samples, exact height and code each, beside N
pub record Profile : Type 0 where
  pub n : ℕ
  pub heights : List ℕ
  pub codes : List ℕ

-- 201 zeros: the heights, or the codes, of a profile of which nothing is read yet; unused places stay 0
unfoldable pub zeros : List ℕ
zeros = replicate 201 0

-- a profile of N = n with nothing read yet
abbrev pub unused : ℕ → Profile
unused n = record { n = n; heights = zeros; codes = zeros }

-- the profile with a reading put in at sample i
abbrev pub put : Profile → ℕ → Reading → Profile
put p i r = record { n = p.n; heights = set p.heights i r.height; codes = set p.codes i r.code }

-- what the profile holds at sample i
abbrev pub sample_of : Profile → ℕ → Reading
sample_of p i = record { height = get_or p.heights i 0; code = get_or p.codes i 0 }

-- the place of a refusal met at a sample is the sample's number
abbrev pub at_sample : {A : Type 0} → ℕ → Outcome A → Outcome A
at_sample i (given a) = given a
at_sample i (refused number place) = refused number i

-- The samples from 0 upward, k of them, each read by this reader and put in, until one is refused.
unfoldable pub up_to : (ℕ → Outcome Reading) → ℕ → ℕ → Outcome Profile
up_to read n zero = given (unused n)
up_to read n (suc i) = up_to read n i and_then λ p. at_sample i (read i) and_then λ r. given (put p i r)

-- the profile of samples 0 to N, each read by this reader
abbrev pub profile_by : (ℕ → Outcome Reading) → ℕ → Outcome Profile
profile_by read n = up_to read n (n + 1)

-- a path with its profile: what the calls on a link speak of
pub record Link : Type 0 where
  pub path : Path
  pub profile : Profile

-- The samples of a path in a checked file are read as any point of it, each tried for 4, 5, 6 in that order.
unfoldable pub link_in : List ℕ → Terrain → Path → Outcome Link
link_in file t w = profile_by (λ i. point_in file t (sample w i)) w.n and_then λ p. given (record { path = w; profile = p })

-- The order of checks of every call on a path: 1, 2, 3 for the file, 4, 4, 7, 8 for the path and what is asked of it, then the samples.
unfoldable pub linked : List ℕ → ℕ → ℕ → Asked → Outcome Link
linked file base zone asked = checked file base zone and_then λ t. path_on t.ground asked and_then link_in file t

-- what an answer about a path comes to: a refusal has its number, and the place where it was met
abbrev pub path_outcome_of : {A : Type 0} → Result A PathRefusal → Outcome A
path_outcome_of (Ok a) = given a
path_outcome_of (Err r) = refused (number r.refusal) r.place

-- a place for samples of which none is read yet
abbrev pub none_read : Samples
none_read = record { heights = zeros; codes = zeros }

-- the samples with a reading put in at sample i
abbrev pub put_in : Samples → ℕ → Reading → Samples
put_in s i r = record { heights = set s.heights i r.height; codes = set s.codes i r.code }

-- what was read at sample i
abbrev pub read_at : Samples → ℕ → Reading
read_at s i = record { height = get_or s.heights i 0; code = get_or s.codes i 0 }

-- the link of a path, and of the samples that were read
abbrev pub link_of : Path → Samples → Link
link_of w s = record { path = w; profile = record { n = w.n; heights = s.heights; codes = s.codes } }

-- what reading a path and its samples comes to: the path came back, or a refusal
abbrev pub sampled_means : Result Path PathRefusal → Samples → Outcome Link
sampled_means r s = path_outcome_of r and_then λ w. given (link_of w s)

-- what reading the samples of a path comes to
abbrev pub walked_means : Path → Result ⊤ PathRefusal → Samples → Outcome Link
walked_means w r s = path_outcome_of r and_then λ u. given (link_of w s)

-- the profile of the path between two points
unfoldable pub profile : List ℕ → ℕ → ℕ → Point → Point → Outcome Profile
profile file base zone first second = linked file base zone (ask_path first second) and_then λ l. given l.profile

-- the answer of `janlishuk_profile` as the caller gets it
abbrev pub profile_answer : Outcome Profile → ProfileAnswer
profile_answer o =
    let p : Profile = filled_by (unused 0) o in
    record {
      refusal = refusal_number o;
      place = refusal_place o;
      n = p.n;
      heights = p.heights;
      codes = p.codes;
    }
