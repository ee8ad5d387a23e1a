-- The record that a point is read from: its rectangle is a covered one of the file, and the record reaches as far as the point's weighing corners. What
-- the crates above know of `taken` is said here. From the laws of a checked file, of places and of seams. Assumes nothing.
use mathlib.Core.Path.{◌≡◌, refl, sym, ◌∙◌, ap}
use mathlib.Core.Bool.{Bool, true, false, not, cond}
use mathlib.Core.List.{List, [], ◌∷◌}
use mathlib.Core.Logic.{◌↔◌, ◌⊎◌, inl, inr, ⊎_elim}
use Prim.Native.Nat.{ℕ, ◌*◌, ◌≤◌, ◌<◌}
use native.Mathlib.Omega.{arith}
use lib.ListN.{length}
use borrow.Author.Tests.{eqb-true, eqb-false, ne_eqb, not-true, not-false}
use Rattle.ground.specs.Outcome.{given, refused, unless, ◌and_then◌}
use Rattle.ground.specs.Boundary.{rows}
use Rattle.ground.specs.Ground.{ground_of, holds}
use Rattle.ground.specs.Place.{number, place_of, located}
use Rattle.ground.specs.Seam.{west_allowed, south_allowed, when, beside, allowed, GridHolds, Among}
use Rattle.ground.specs.declared.Ground.{Ground}
use Rattle.ground.specs.declared.point.Point.{Point}
use Rattle.ground.specs.declared.place.Place.{Place}
use Rattle.ground.proofs.Laws.Boundary.{rows_28_29}
use Rattle.ground.proofs.Laws.Outcome.{not_both, past, step, unchanged}
use Rattle.ground.proofs.Laws.Place.{lies}
use Rattle.ground.proofs.Laws.Seam.{allowed_exactly, number_within, words_within}
use Rattle.index.specs.Index.{highest, is_record, Passes}
use Rattle.index.proofs.Laws.Walk.{from_7_to_M}
use Rattle.terrain.specs.Check.{highest_of, Opens, Gave}
use Rattle.terrain.specs.Record.{entry, covered, record_at, first_covered, taken, taken_before, rectangle_of, Uncovered, record_in, vouched}
use Rattle.terrain.specs.Inside.{InIndex, entry_where, Reaches}
use Rattle.terrain.specs.declared.check.Terrain.{Terrain}
use Rattle.terrain.specs.declared.record.Taken.{Taken}
use Rattle.terrain.proofs.Laws.Checked.{opens_is, gave_is, record_named}

-- a place that is tried, the test c holding, and whose rectangle is covered is taken
pub covered_taken : (file : List ℕ) {c : Bool} (s : Place) (rest : List Place) → c ≡ true → (entry file (number s.rectangle) ≡ 0 → ⊥)
    → first_covered file (when c s rest) ≡ given (record_at file s)
unfolding first_covered
covered_taken file s rest t some = simp (t, ne_eqb (entry file (number s.rectangle)) 0 some)

-- a place whose rectangle, where it is tried, is not covered is passed over
pub passed_over : (file : List ℕ) (c : Bool) (s : Place) (rest : List Place) → (c ≡ true → entry file (number s.rectangle) ≡ 0)
    → first_covered file (when c s rest) ≡ first_covered file rest
unfolding first_covered
passed_over file true s rest none = simp (none refl)
passed_over file false s rest none = refl

-- what becomes of a place that is tried where the test c holds; r is what the index then says of its rectangle, else 0
pub record Tried (file : List ℕ) (c : Bool) (s : Place) (rest : List Place) (r : ℕ) : Type 0 where
  pub held : (r ≡ 0 → ⊥) → c ≡ true
  pub found : (r ≡ 0 → ⊥) → first_covered file (when c s rest) ≡ given (record { entry = r; place = s })
  pub passed : r ≡ 0 → first_covered file (when c s rest) ≡ first_covered file rest

pub tried : (file : List ℕ) (c : Bool) (s : Place) (rest : List Place) {n r : ℕ} → r ≡ entry_where file c n → (c ≡ true → n ≡ number s.rectangle)
    → Tried file c s rest r
tried file true s rest e is =
    let at = e ∙ ap (entry file) (is refl) in
    record {
      held = λ some. refl;
      found = λ some. rw at (covered_taken file {c = true} s rest refl (rw at at some));
      passed = λ none. passed_over file true s rest (λ t. sym at ∙ none);
    }
tried file false s rest e is = record { held = λ some. absurd (some e); found = λ some. absurd (some e); passed = λ none. refl }

-- the record that is taken is that of the rectangle at one of the places, which is covered
pub record IsFirst (file : List ℕ) (l : List Place) (t : Taken) : Type 0 where
  pub gave : first_covered file l ≡ given t
  pub among : Among t.place l
  pub is : t ≡ record_at file t.place
  pub covered : covered file (rectangle_of t) ≡ true

-- refusal 5 is given, and none of the places lies in a covered rectangle
record NoFirst (file : List ℕ) (l : List Place) : Type 0 where
  pub gave : first_covered file l ≡ refused 5 0
  pub none : (u : Place) → Among u l → covered file (number u.rectangle) ≡ false

-- of any places the first in a covered rectangle is taken, or no place lies in one
first_or_none : (file : List ℕ) (l : List Place) → ((t : Taken) × IsFirst file l t) ⊎ NoFirst file l
unfolding first_covered
first_or_none file [] = inr (record { gave = refl; none = λ u a. absurd a })
first_or_none file (s ∷ rest) = go (covered file (number s.rectangle)) refl (first_or_none file rest)
  where
    go : (c : Bool) → covered file (number s.rectangle) ≡ c → ((t : Taken) × IsFirst file rest t) ⊎ NoFirst file rest
        → ((t : Taken) × IsFirst file (s ∷ rest) t) ⊎ NoFirst file (s ∷ rest)
    go true h more = inl (record_at file s, record { gave = simp h; among = inl refl; is = refl; covered = h })
    go false h (inl (t, f)) = inl (t, record { gave = simp (h, f.gave); among = inr f.among; is = f.is; covered = f.covered })
    go false h (inr f) = inr (record { gave = simp (h, f.gave); none = λ u. ⊎_elim (λ e. rw e h) (f.none u) })

-- at any place a record is taken, or refusal 5 is given
pub taken_or_5 : (file : List ℕ) (s : Place) → ((t : Taken) × (taken file s ≡ given t)) ⊎ (taken file s ≡ refused 5 0)
unfolding taken
taken_or_5 file s = ⊎_elim (λ x. inl (x.0, x.1.gave)) (λ f. inr f.gave) (first_or_none file (allowed s))

-- what was taken is the first covered of the allowed rectangles
pub taken_first : (file : List ℕ) (s : Place) (t : Taken) → taken file s ≡ given t → IsFirst file (allowed s) t
unfolding taken
taken_first file s t e =
    ⊎_elim
    (λ x. let i : x.0 ≡ t = cc (x.1.gave, e) in rw i at x.1)
    (λ f. absurd (not_both (sym f.gave ∙ e)))
    (first_or_none file (allowed s))

-- no record is taken exactly if none of the allowed rectangles has an entry
pub uncovered_is : (file : List ℕ) (s : Place) → Uncovered file s ↔ ((u : Place) → Among u (allowed s) → entry file (number u.rectangle) ≡ 0)
unfolding taken
uncovered_is file s = (
  (λ no. ⊎_elim (λ x. absurd (no x.0 x.1.gave)) (λ f u a. eqb-true _ _ (not-false _ (f.none u a))) (first_or_none file (allowed s))),
  λ none t e. let f = taken_first file s t e in eqb-false _ _ (not-true _ f.covered) (none t.place f.among),
)

-- Request b) of document 02 changes what is taken only for a point on a seam whose own rectangle is not covered, which was refused with 5.
pub record Changed (file : List ℕ) (s : Place) : Type 0 where
  pub stays : covered file (number s.rectangle) ≡ true → taken file s ≡ taken_before file s
  pub was : covered file (number s.rectangle) ≡ false → taken_before file s ≡ refused 5 0
  pub is : covered file (number s.rectangle) ≡ false → taken file s ≡ first_covered file (beside s)
  pub off : west_allowed s ≡ false → south_allowed s ≡ false → taken file s ≡ taken_before file s

pub taken_as_before : (file : List ℕ) (s : Place) → Changed file s
unfolding taken allowed first_covered
taken_as_before file s =
    record {
      stays = λ c. simp c;
      was = λ c. simp c;
      is = λ c. simp c;
      off = λ w v. go (covered file (number s.rectangle)) w v;
    }
  where
    go : (c : Bool) → west_allowed s ≡ false → south_allowed s ≡ false
        → cond c (given (record_at file s)) (first_covered file (beside s)) ≡ unless (not c) 5 (given (record_at file s))
    go true w v = refl
    go false w v = simp (w, v)

-- the place in the record taken gives a point of the ground back: the grid of its rectangle holds the point
pub taken_holds : (file : List ℕ) (g : Ground) (p : Point) → holds g p ≡ true → (t : Taken) → taken file (place_of g p) ≡ given t
    → GridHolds g p t.place
taken_holds file g p h t e = (allowed_exactly g p h t.place).0 (taken_first file (place_of g p) t e).among

-- the entry that a record was taken by is that of its rectangle
pub taken_entry : (file : List ℕ) (s : Place) (t : Taken) → taken file s ≡ given t → t.entry ≡ entry file (rectangle_of t)
taken_entry file s t e = ap (λ (u : Taken). u.entry) (taken_first file s t e).is

-- the record taken for a point that the ground holds reaches as far as the corners that weigh in, if its number is that of a record of the file
pub taken_reaches : {file : List ℕ} (g : Ground) (p : Point) → holds g p ≡ true → (t : Taken) → taken file (place_of g p) ≡ given t
    → 7 ≤ t.entry → 1024 * t.entry ≤ length file → Reaches file t
taken_reaches {file} g p h t e past recorded =
    let m = taken_holds file g p h t e in
    record {
      past = past;
      recorded = recorded;
      words = words_within m;
      measured = record { x = m.fx; y = m.fy; weights = m.weights };
    }

-- a record that is taken in a file that passes: that of a covered rectangle of the file, past the index
pub record IsTaken (file : List ℕ) (rows : ℕ) (t : Taken) : Type 0 where
  pub covered : covered file (rectangle_of t) ≡ true
  pub entry : t.entry ≡ entry file (rectangle_of t)
  pub within : rectangle_of t < 100 * rows
  pub named : is_record t.entry (highest file) ≡ true
  pub reaches : Reaches file t

-- the record that is taken for a point that the ground holds
pub taken_is : {file : List ℕ} (b z : ℕ) → Passes file (rows b) → (p : Point) → holds (ground_of b z) p ≡ true → (t : Taken)
    → taken file (place_of (ground_of b z) p) ≡ given t → IsTaken file (rows b) t
taken_is {file} b z passes p h t e =
    let first = taken_first file (place_of (ground_of b z) p) t e in
    let within = number_within b z p h (taken_holds file (ground_of b z) p h t e) in
    let is = taken_entry file (place_of (ground_of b z) p) t e in
    let named = rw (← is) at (record_named passes (rectangle_of t) within first.covered) in
    let r = from_7_to_M _ _ named in
    record {
      covered = first.covered;
      entry = is;
      within = within;
      named = named;
      reaches = taken_reaches (ground_of b z) p h t e r.0 (omega (arith, r.1, passes.highest_m, passes.whole.multiple));
    }

-- the place of a point that is located on a ground
pub place_is : (b z : ℕ) {g : Ground} → g ≡ ground_of b z → (p : Point) (s : Place) → located g p ≡ given s
    → (holds (ground_of b z) p ≡ true) × (s ≡ place_of (ground_of b z) p)
place_is b z {g} opened p s e =
    let v = past (not (holds g p)) 4 (given (place_of g p)) s e in
    let i : s ≡ place_of g p = cc v.1 in
    (rw opened at (not-false (holds g p) v.0), rw opened at i)

-- the record that a point of a checked file is read from
pub record_is : {file : List ℕ} {t : Terrain} (f : Gave file t) (p : Point) (u : Taken) → record_in file t p ≡ given u
    → IsTaken file (rows f.base) u
unfolding record_in
record_is {file} {t} f p u e =
    let c = gave_is f in
    let s = step (located t.ground p) (taken file) u e in
    let i = place_is f.base f.zone c.opened.is p s.value s.gave in
    taken_is f.base f.zone c.passes p i.0 u (rw i.1 at s.then)

-- in a file that passes, every record that is taken is one that its entry may name
pub all_vouched : {file : List ℕ} {t : Terrain} → Gave file t → (p : Point) → (record_in file t p and_then vouched (highest_of t)) ≡ record_in file t p
all_vouched {file} {t} f p = unchanged (record_in file t p) λ u e. rw ((gave_is f).highest, (record_is f p u e).named)

-- the record that a point of a file that was opened is read from reaches as far as the corners that weigh in
pub vouched_reaches : {file : List ℕ} {t : Terrain} (f : Opens file t) (p : Point) (u : Taken)
    → (record_in file t p and_then vouched (highest_of t)) ≡ given u → Reaches file u
unfolding record_in
vouched_reaches {file} {t} f p u e =
    let c = opens_is f in
    let v = step (record_in file t p) (vouched (highest_of t)) u e in
    let n = past (not (is_record v.value.entry (highest_of t))) 3 (given v.value) u v.then in
    let same : v.value ≡ u = cc n.1 in
    let s = step (located t.ground p) (taken file) v.value v.gave in
    let i = place_is f.base f.zone c.opened.is p s.value s.gave in
    let r = from_7_to_M _ _ (not-false _ n.0) in
    rw same at
    (taken_reaches (ground_of f.base f.zone) p i.0 v.value (rw i.1 at s.then) r.0
    (omega (arith, r.1, c.highest, c.range, c.whole)))

-- the index lies in a file that was opened, and has a position for the rectangle of a point that is located in it
pub index_reaches : {file : List ℕ} {t : Terrain} → Opens file t → (p : Point) (s : Place) → located t.ground p ≡ given s
    → InIndex file (number s.rectangle)
index_reaches f p s e =
    let c = opens_is f in
    let i = place_is f.base f.zone c.opened.is p s e in
    let g = ground_of f.base f.zone in
    let n = number_within f.base f.zone p i.0 (lies g p i.0).grid in
    let r = rows_28_29 f.base c.opened.named.base in
    rw i.1 (omega arith, omega arith)
