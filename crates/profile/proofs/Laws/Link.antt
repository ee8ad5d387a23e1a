-- A link that a call was given: the file passed its check, the path was found on its ground, every sample was read and is in its place, and so no number
-- of it is too large. From the laws of the path, of the profile and of the reading. Assumes nothing.
use mathlib.Core.Path.{◌≡◌, refl, sym, ◌∙◌, ap}
use mathlib.Core.Logic.{◌↔◌}
use mathlib.Core.Bool.{true, false, ◌||◌}
use mathlib.Core.List.{List}
use Prim.Native.Nat.{ℕ, ◌+◌, ◌≤◌, ◌<◌}
use native.Mathlib.Decide.{dec_lt}
use native.Mathlib.Omega.{arith}
use lib.Dec.{ltb}
use borrow.Author.Tests.{ltb-false, le-ltb, ne_eqb}
use Rattle.ground.specs.Outcome.{Outcome, given, refused, ◌and_then◌}
use Rattle.ground.specs.Ground.{ground_of, holds}
use Rattle.ground.specs.declared.point.Point.{Point}
use Rattle.ground.proofs.Laws.Test.{neither}
use Rattle.ground.proofs.Laws.Outcome.{step}
use Rattle.terrain.specs.Check.{checked, Gave}
use Rattle.reading.specs.Reading.{point_in, reading}
use Rattle.terrain.specs.declared.check.Terrain.{Terrain}
use Rattle.reading.specs.declared.point.Reading.{Reading}
use Rattle.terrain.proofs.Laws.Checked.{checked_is, north_most}
use Rattle.reading.specs.Corner.{most_height}
use Rattle.reading.proofs.Laws.Reading.{read_within}
use Rattle.path.specs.Path.{Q, N, path_of, sample, farthest, over_asked, path_on, ask_path}
use Rattle.path.specs.declared.Path.{Path}
use Rattle.path.specs.declared.Asked.{Asked}
use Rattle.path.proofs.Laws.Path.{IsPath, path_is, path_sound}
use Rattle.profile.specs.Profile.{Profile, sample_of, profile_by, Link, link_of, link_in, linked, profile}
use Rattle.profile.specs.Inside.{SoundLink}
use Rattle.profile.specs.declared.samples.Samples.{Samples}
use Rattle.profile.proofs.Laws.Profile.{Filled, filled, all_read}

-- what is asked is not too much
pub record WithinAsked (n : ℕ) (asks : Asked) : Type 0 where
  pub a : asks.a ≤ 100
  pub b : asks.b ≤ 100
  pub i : asks.i ≤ n

-- what the test of what is asked means
pub within_asked : (n : ℕ) (asks : Asked) → (over_asked n asks.a asks.b asks.i ≡ false) ↔ WithinAsked n asks
within_asked n asks = (
  (λ e.
      let t = neither (ltb 100 asks.a || ltb 100 asks.b) (ltb n asks.i) e in
      let m = neither (ltb 100 asks.a) (ltb 100 asks.b) t.0 in
      record { a = ltb-false _ _ m.0; b = ltb-false _ _ m.1; i = ltb-false _ _ t.1 }),
  λ w. simp (le-ltb _ _ w.a, le-ltb _ _ w.b, le-ltb _ _ w.i),
)

-- what a link that was given is
pub record IsLinked (file : List ℕ) (b z : ℕ) (asks : Asked) (l : Link) : Type 0 where
  pub terrain : Terrain
  pub checked : checked file b z ≡ given terrain
  pub path : IsPath terrain.ground asks l.path
  pub asked : WithinAsked l.path.n asks
  pub filled : Filled (λ i. point_in file terrain (sample l.path i)) l.path.n (l.path.n + 1) l.profile
  pub sound : SoundLink l

-- every height and code of a profile is one that was read, or 0
samples_within : {file : List ℕ} {t : Terrain} (w : Path) {k : ℕ} (p : Profile) → Gave file t → Filled (λ i. point_in file t (sample w i)) w.n k p
    → (i : ℕ) → ((sample_of p i).height ≤ most_height) × ((sample_of p i).code ≤ 7)
samples_within {file} {t} w {k} p g f i = go (dec_lt i k)
  where
    go : Dec (i < k) → ((sample_of p i).height ≤ most_height) × ((sample_of p i).code ≤ 7)
    go (yes l) = read_within (sample w i) g (f.at i l)
    go (no h) =
        let zero = f.rest i (omega arith) in
        (omega (arith, ap (λ (r : Reading). r.height) zero), omega (arith, ap (λ (r : Reading). r.code) zero))

-- a path with its profile
abbrev pub with : Path → Profile → Link
with w r = record { path = w; profile = r }

-- a link that was given is what `IsLinked` says
pub link_is : (file : List ℕ) (b z : ℕ) (asks : Asked) (l : Link) → linked file b z asks ≡ given l → IsLinked file b z asks l
unfolding linked link_in
link_is file b z asks l e =
    let c = step (checked file b z) (λ t. path_on t.ground asks and_then link_in file t) l e in
    let t = c.value in
    let w = step (path_on t.ground asks) (link_in file t) l c.then in
    let reader : ℕ → Outcome Reading = λ i. point_in file t (sample w.value i) in
    let s = step (profile_by reader w.value.n) (λ r. given (with w.value r)) l w.then in
    let i : l ≡ with w.value s.value = cc s.then in
    let found = path_is t.ground asks w.value w.gave in
    let gave : Gave file t = record { base = b; zone = z; gave = c.gave } in
    let sound = path_sound (north_most gave) found in
    let f = filled reader w.value.n (w.value.n + 1) s.value (omega (arith, sound.most)) s.gave in
    let within = samples_within w.value s.value gave f in
    rw i (record {
      terrain = t;
      checked = c.gave;
      path = found;
      asked = (within_asked w.value.n asks).0 found.asked;
      filled = f;
      sound = record { path = sound; heights = λ i. (within i).0; codes = λ i. (within i).1 };
    })

-- the path came with its samples: the link was given
pub sampled_is : {file : List ℕ} {b z : ℕ} {asks : Asked} {s : Samples} {w : Path}
    → given (link_of w s) ≡ linked file b z asks → IsLinked file b z asks (link_of w s)
sampled_is e = link_is _ _ _ _ _ (sym e)

-- What a call asks besides the path, within its bounds, changes nothing: its refusals are those of the profile. So verdict and row are given exactly
-- where the whole profile is, and a plan is given, or refused with 9, exactly there.
module _ (file : List ℕ) (b z : ℕ) (asks : Asked) where
  -- the link is that of the profile
  pub same_link : WithinAsked (N (Q asks.first asks.second)) asks → linked file b z asks ≡ linked file b z (ask_path asks.first asks.second)
  unfolding linked path_on
  same_link w =
      let q = Q asks.first asks.second in
      simp ((within_asked (N q) asks).1 w, le-ltb (N q) 0 (omega arith))

  -- where a link is given, so is the profile
  pub profile_given : (l : Link) → linked file b z asks ≡ given l → profile file b z asks.first asks.second ≡ given l.profile
  unfolding profile
  profile_given l e =
      let i = link_is file b z asks l e in
      simp (← same_link (rw i.path.is at i.asked), e)

  -- where the profile is given, so is the link
  pub link_given : (pr : Profile) → profile file b z asks.first asks.second ≡ given pr → WithinAsked (N (Q asks.first asks.second)) asks
      → linked file b z asks ≡ given (with (path_of asks.first asks.second) pr)
  unfolding profile
  link_given pr e a =
      let s = step (linked file b z (ask_path asks.first asks.second)) (λ l. given l.profile) pr e in
      let i = link_is file b z (ask_path asks.first asks.second) s.value s.gave in
      let own : s.value.profile ≡ pr = cc s.then in
      same_link a ∙ s.gave ∙ λ k. given (with (i.path.is k) (own k))

-- a profile put into a link is there
profile_back : (w : Path) (o : Outcome Profile) → (o and_then (λ r. given (with w r)) and_then λ l. given l.profile) ≡ o
profile_back w (given r) = refl
profile_back w (refused number place) = refl

-- demand 2, last sentence, of the profile: one that is given has each sample's reading at its place and 0 at the others
pub profile_at : (file : List ℕ) (b z : ℕ) (p q : Point) (pr : Profile) → profile file b z p q ≡ given pr
    → Filled (λ i. reading file b z (sample (path_of p q) i)) (N (Q p q)) (N (Q p q) + 1) pr
unfolding profile reading
profile_at file b z p q pr e =
    let s = step (linked file b z (ask_path p q)) (λ l. given l.profile) pr e in
    let i = link_is file b z (ask_path p q) s.value s.gave in
    let own : s.value.profile ≡ pr = cc s.then in
    simp i.checked (rw (i.path.is, own) at i.filled)

-- In a file that passes the check, for two points of its zone and on its ground that are neither the same nor too far apart:
module _ (file : List ℕ) (b z : ℕ) (t : Terrain) (c : checked file b z ≡ given t) (p q : Point)
    (hp : holds (ground_of b z) p ≡ true) (hq : holds (ground_of b z) q ≡ true) (some : 1 ≤ Q p q) (most : Q p q ≤ farthest) where
  -- the samples are read as any point is
  abbrev pub reader : ℕ → Outcome Reading
  reader i = reading file b z (sample (path_of p q) i)

  -- a reading in the checked file is a reading of the file
  in_file_lem : (r : Point) → point_in file t r ≡ reading file b z r
  unfolding reading
  in_file_lem r = simp c

  -- the profile is what the samples' readings make it
  pub by_samples : profile file b z p q ≡ profile_by reader (N (Q p q))
  unfolding profile linked path_on link_in
  by_samples =
      let w = path_of p q in
      let g = (checked_is file b z t c).opened.is in
      let some-way = ne_eqb w.q 0 (λ e. omega arith) in
      simp (c, g, hp, hq, some-way, le-ltb farthest w.q most, le-ltb w.n 0 (omega arith))
      (profile_back w (profile_by (λ i. point_in file t (sample w i)) w.n) ∙ λ k. profile_by (λ i. in_file_lem (sample w i) k) w.n)

  -- the profile is given exactly when every sample is read
  pub profile_exactly : ((pr : Profile) × (profile file b z p q ≡ given pr)) ↔ ((i : ℕ) → i ≤ N (Q p q) → (r : Reading) × (reader i ≡ given r))
  profile_exactly = (
    (λ x i l. (sample_of x.0 i, (profile_at file b z p q x.0 x.1).at i (omega arith))),
    λ f. let r = all_read reader (N (Q p q)) (N (Q p q) + 1) (λ i l. f i (omega arith)) in (r.0, by_samples ∙ r.1),
  )
