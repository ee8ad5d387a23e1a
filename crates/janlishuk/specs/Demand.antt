-- Demand 2, last sentence, and demand 3, in the caller's own fields, what a record that is handed back is, and what the lists of an upload hold (document 02,
-- request a). That the promises keep them is shown in proofs/Demand2.antt, proofs/Demand3.antt, proofs/Given.antt and proofs/Survey.antt. The first two
-- sentences of demand 2 are in the words of the reading's definitions, `Readable` and `IsMean`. Assumes nothing.
use Rattle.std.specs.Prelude.{◌≡◌, ◌⊎◌, ◌↔◌, List, ℕ, ◌+◌, ◌-◌, ◌*◌, ◌/◌, ◌≤◌, ◌<◌, length, get_or}
use Rattle.std.specs.Borrow.{Bor}
use Rattle.ground.specs.Outcome.{given}
use Rattle.ground.specs.Measure.{metres}
use Rattle.ground.specs.Ground.{ground_of}
use Rattle.ground.specs.Seam.{GridHolds}
use Rattle.ground.specs.declared.point.Point.{Point}
use Rattle.terrain.specs.Record.{entry, taken, rectangle_of}
use Rattle.terrain.specs.declared.record.Taken.{Taken}
use Rattle.reading.specs.declared.point.ReadAnswer.{ReadAnswer}
use Rattle.survey.specs.Survey.{Lists, point_at}
use Rattle.path.specs.Path.{Q, IsN}
use Rattle.profile.specs.declared.ProfileAnswer.{ProfileAnswer}
use Rattle.masts.specs.Clear.{rounded_up}
use Rattle.link.specs.declared.clear.VerdictAnswer.{VerdictAnswer}
use Rattle.janlishuk.specs.Order.{FirstOf, placed, of_point}
use Rattle.janlishuk.specs.Promise.{Reads, Judges}

-- sample i of n lies at ((N-i) E0 + i E1) / N truncated, northing likewise
abbrev pub sample_at : Point → Point → (n i : ℕ) → Point
sample_at p q n i =
    record {
      zone = p.zone;
      easting = metres (((n - i) * p.easting.0 + i * q.easting.0) / n);
      northing = metres (((n - i) * p.northing.0 + i * q.northing.0) / n);
    }

-- the height of sample i in a profile
abbrev pub height_at : ProfileAnswer → ℕ → ℕ
height_at pr i = get_or pr.heights i 0

-- the code of sample i in a profile
abbrev pub code_at : ProfileAnswer → ℕ → ℕ
code_at pr i = get_or pr.codes i 0

-- "Profiles .. follow 01 sample by sample", of a profile that is given
pub record FollowsSamples (file after : List ℕ) (b z : ℕ) (p q : Point) (pr : ProfileAnswer) : Type 0 where
  -- N is the least whole number of at least 1 with (500 N)² >= Q
  pub least : IsN (Q p q) pr.n
  -- each sample from 0 to N has in its place what is read there
  pub sample : (i : ℕ) → i ≤ pr.n → (r : ReadAnswer) → Reads file after b z (sample_at p q pr.n i) r
      → r ≡ record { refusal = 0; place = 0; height = height_at pr i; code = code_at pr i }
  -- unused places are 0, and there are 201 places
  pub unused : (i : ℕ) → pr.n < i → (height_at pr i ≡ 0) × (code_at pr i ≡ 0)
  pub places : (length pr.heights ≡ 201) × (length pr.codes ≡ 201)

-- ".. and clear verdicts follow 01 sample by sample", of masts ma and mb on a path whose profile is given
pub record FollowsTest (p q : Point) (pr : ProfileAnswer) (ma mb : ℕ) (v : VerdictAnswer) : Type 0 where
  pub given : (v.refusal ≡ 0) × (v.place ≡ 0)
  pub either : (v.clear ≡ 0) ⊎ (v.clear ≡ 1)
  -- the path is clear exactly if for each i from 1 to N-1, (N-i) A + i B >= N (T + G)
  pub clear :
      let n : ℕ = pr.n in
      (v.clear ≡ 1)
      ↔ ((i : ℕ) → 1 ≤ i → i < n
      → n * (rounded_up (height_at pr i) 250 + rounded_up (Q p q * i * (n - i)) (17000 * (n * n)))
      ≤ (n - i) * (height_at pr 0 / 250 + 1000 * ma) + i * (height_at pr n / 250 + 1000 * mb))

-- the clear test at sample i without any rounding, heights in 1/250,000 m and both sides multiplied by 17,000 N²
abbrev pub ExactlyClear : Point → Point → ProfileAnswer → (ma mb i : ℕ) → Type 0
ExactlyClear p q pr ma mb i =
    let n : ℕ = pr.n in
    17000 * (n * n) * (n * height_at pr i) + 250 * (n * (Q p q * i * (n - i)))
    ≤ 17000 * (n * n) * ((n - i) * (height_at pr 0 + 250000 * ma) + i * (height_at pr n + 250000 * mb))

-- demand 3: two masts within the limits that the verdict says are clear
pub record ClearPair (file after : List ℕ) (b z : ℕ) (p q : Point) (la lb ma mb : ℕ) : Type 0 where
  pub first : ma ≤ la
  pub second : mb ≤ lb
  pub clear : (v : VerdictAnswer) → Judges file after b z p q ma mb v → v.clear ≡ 1

-- a record r that is handed back of a file f is that of the rectangle taken for the point, whose grid holds it: 1024 bytes of the caller's own, from byte
-- 1024 (entry - 1) on
pub record IsRecord (f r : Bor (List ℕ)) (b z : ℕ) (p : Point) : Type 0 where
  pub source : Taken
  pub taken : taken f.now (placed b z p) ≡ given source
  pub holds : GridHolds (ground_of b z) p source.place
  pub named : source.entry ≡ entry f.now (rectangle_of source)
  pub long : length r.now ≡ 1024
  pub byte : (k : ℕ) → k < 1024 → get_or r.now k 0 ≡ get_or f.now (1024 * (source.entry - 1) + k) 0
  pub block : r.ref_ptr.0 ≡ f.ref_ptr.0
  pub start : r.ref_ptr.1 ≡ 1024 * (source.entry - 1) + f.ref_ptr.1

-- entry i of the lists is this answer, whatever d is taken for an entry that is not there
pub record EntryIs (l : Lists) (i d : ℕ) (r : ReadAnswer) : Type 0 where
  pub height : get_or l.heights i d ≡ r.height
  pub code : get_or l.codes i d ≡ r.code
  pub refusal : get_or l.refusals i d ≡ r.refusal

-- entry i of the lists is what it was
pub record EntryStays (before after : Lists) (i d : ℕ) : Type 0 where
  pub height : get_or after.heights i d ≡ get_or before.heights i d
  pub code : get_or after.codes i d ≡ get_or before.codes i d
  pub refusal : get_or after.refusals i d ≡ get_or before.refusals i d

-- document 02, request a): what the lists that were lent hold after an upload that is given
pub record FollowsReadings (file after : List ℕ) (b z : ℕ) (lent left : Lists) : Type 0 where
  -- "each entry just what the single reading gives", for that point in the file's zone
  pub entry : (i d : ℕ) → i < length lent.eastings → (r : ReadAnswer) → Reads file after b z (point_at z lent i) r → EntryIs left i d r
  -- "refusal numbers (0 for a point that is read)": 4, 5, 6 of the point, in that order
  pub number : (i d : ℕ) → i < length lent.eastings → (r : ReadAnswer) → Reads file after b z (point_at z lent i) r
      → FirstOf (of_point file b z 0 (point_at z lent i)) (get_or left.refusals i d) r.place
  -- "A refused point has height and code 0."
  pub refused : (i d : ℕ) → i < length lent.eastings → (get_or left.refusals i d ≡ 0 → ⊥)
      → (get_or left.heights i d ≡ 0) × (get_or left.codes i d ≡ 0)
  -- "entries after the last point keep their content", and no list changes its length
  pub rest : (i d : ℕ) → length lent.eastings ≤ i → EntryStays lent left i d
  pub long :
      (length left.heights ≡ length lent.heights)
      × ((length left.codes ≡ length lent.codes) × (length left.refusals ≡ length lent.refusals))
  -- the two lists of points hold what they held
  pub points_stay : (left.eastings ≡ lent.eastings) × (left.northings ≡ lent.northings)
