-- A spot in the steps of its code; for every file that passes the check it is the reading, refusals included; what is read of it in any file; and when its
-- second refusal 3 is given. From the laws of a file that was opened, of the record taken and of the reading. Assumes nothing.
use mathlib.Core.Path.{◌≡◌, refl, sym, ◌∙◌}
use mathlib.Core.Logic.{◌↔◌, ◌⊎◌, inl, inr, ⊎_elim}
use mathlib.Core.Bool.{Bool, true, false, not, false≢true}
use mathlib.Core.List.{List, [], ◌∷◌}
use Prim.Native.Nat.{ℕ, ◌+◌, ◌-◌, ◌*◌, ◌≤◌}
use native.Mathlib.Omega.{arith}
use lib.Dec.{eqb}
use lib.ListN.{length}
use borrow.Author.Tests.{eqb-true, eqb-false, le-leb, not-true, not-false}
use Rattle.ground.specs.Outcome.{Outcome, given, unless, ◌and_then◌}
use Rattle.ground.specs.Boundary.{named}
use Rattle.ground.specs.Ground.{ground_of, holds}
use Rattle.ground.specs.Place.{number, place_of}
use Rattle.ground.specs.Seam.{when, allowed}
use Rattle.ground.specs.declared.point.Point.{Point}
use Rattle.ground.specs.declared.place.Place.{Place}
use Rattle.ground.proofs.Laws.Outcome.{past, step}
use Rattle.index.specs.Bytes.{whole_records}
use Rattle.index.specs.Index.{highest, highest_passes, is_record}
use Rattle.index.proofs.Laws.Bytes.{whole_is}
use Rattle.index.proofs.Laws.Passes.{highest_is}
use Rattle.index.proofs.Laws.Walk.{from_7_to_M}
use Rattle.terrain.specs.Check.{opened_file, checked}
use Rattle.terrain.specs.Record.{entry, first_covered, taken, record_in, vouched}
use Rattle.terrain.specs.declared.check.Terrain.{Terrain}
use Rattle.terrain.specs.declared.record.Taken.{Taken}
use Rattle.terrain.proofs.Laws.Checked.{checked_opens, covered_is}
use Rattle.terrain.proofs.Laws.Taken.{taken_holds, taken_entry, taken_reaches}
use Rattle.reading.specs.Reading.{read_taken, spot_in, reading}
use Rattle.reading.specs.declared.point.Reading.{Reading}
use Rattle.reading.proofs.Laws.Reading.{point_is_spot, mean_of}
use Rattle.spot.specs.Spot.{names_no_record, spot, LooksAt, NamesNoRecord, SpotIsMean}

module _ {A : Type 0} (file : List ℕ) (f : Taken → Outcome A) where
  -- refusal 3 for the entry at which a search of these places stops, tried before its record is taken, comes to the same as tried after it
  abbrev BeforeOrAfter : List Place → Type 0
  BeforeOrAfter l = unless (names_no_record file l) 3 (first_covered file l and_then f) ≡ (first_covered file l and_then vouched (highest file) and_then f)

  -- a test before a step
  stop : (t : Bool) (u : Taken) → (unless t 3 (given u) and_then f) ≡ unless t 3 (f u)
  stop true u = refl
  stop false u = refl

  pub before_or_after : (l : List Place) → BeforeOrAfter l
  unfolding names_no_record first_covered
  before_or_after [] = refl
  before_or_after (s ∷ rest) = go (eqb (entry file (number s.rectangle)) 0) refl (before_or_after rest)
    where
      go : (t : Bool) → eqb (entry file (number s.rectangle)) 0 ≡ t → BeforeOrAfter rest → BeforeOrAfter (s ∷ rest)
      go true e more = simp e more
      go false e more = simp e (sym (stop (not (is_record (entry file (number s.rectangle)) (highest file))) _))

-- a spot in the steps of its code: the file is opened, and the spot is read in it
pub spot_steps : (file : List ℕ) (b z : ℕ) (p : Point) → spot file b z p ≡ (opened_file file b z and_then λ t. spot_in file t p)
unfolding spot opened_file spot_in record_in taken
spot_steps file b z p = go (whole_records file) (named b z) (highest_passes file) (holds (ground_of b z) p) refl refl refl refl
  where
    go : (w n h o : Bool) → whole_records file ≡ w → named b z ≡ n → highest_passes file ≡ h → holds (ground_of b z) p ≡ o
        → spot file b z p ≡ (opened_file file b z and_then λ t. spot_in file t p)
    go false n h o e f g i = simp e
    go true false h o e f g i = simp (e, f)
    go true true false o e f g i = simp (e, f, g)
    go true true true false e f g i = simp (e, f, g, i)
    go true true true true e f g i =
        let back : 6 + (highest file - 6) ≡ highest file = omega (arith, ((highest_is file).0 g).least) in
        simp (e, f, g, i, back) (before_or_after file (read_taken file) (allowed (place_of (ground_of b z) p)))

-- For every file that passes the check a spot answers as the full reading does.
pub spot_is_reading : (file : List ℕ) (b z : ℕ) (t : Terrain) → checked file b z ≡ given t → (p : Point) → spot file b z p ≡ reading file b z p
unfolding reading
spot_is_reading file b z t e p =
    spot_steps file b z p ∙ rw ((checked_opens file b z t e).0, e) (point_is_spot (record { base = b; zone = z; gave = e }) p)

-- what is taken where no entry is refused is a record, from 7 to M
pub taken_named : (file : List ℕ) (l : List Place) (t : Taken) → names_no_record file l ≡ false → first_covered file l ≡ given t
    → (7 ≤ t.entry) × (t.entry ≤ highest file)
taken_named file l t ok e =
    let q = rw (ok, e) at (before_or_after file given l) in
    let v = step (vouched (highest file) t) given t (sym q) in
    from_7_to_M _ _ (not-false _ (past (not (is_record t.entry (highest file))) 3 (given t) v.value v.gave).0)

-- A spot that is read is the mean of the record that its entry names, in every file.
pub spot_mean : (file : List ℕ) (b z : ℕ) (p : Point) (r : Reading) → spot file b z p ≡ given r → SpotIsMean file b z p r
unfolding spot taken
spot_mean file b z p r e =
    let s = place_of (ground_of b z) p in
    let w = past (not (whole_records file)) 1 _ r e in
    let n = past (not (named b z)) 2 _ r w.1 in
    let h = past (not (highest_passes file)) 3 _ r n.1 in
    let o = past (not (holds (ground_of b z) p)) 4 _ r h.1 in
    let k = past (names_no_record file (allowed s)) 3 _ r o.1 in
    let v = step (taken file s) (read_taken file) r k.1 in
    let on : holds (ground_of b z) p ≡ true = not-false _ o.0 in
    let range = taken_named file (allowed s) v.value k.0 v.gave in
    let M = (highest_is file).0 (not-false _ h.0) in
    let whole = whole_is file (not-false _ w.0) in
    let recorded : 1024 * v.value.entry ≤ length file = omega (arith, range.1, M.most, whole.multiple) in
    record {
      source = v.value;
      taken = v.gave;
      most = range.1;
      holds = taken_holds file (ground_of b z) p on v.value v.gave;
      mean =
          mean_of file v.value (taken_entry file s v.value v.gave)
          (taken_reaches (ground_of b z) p on v.value v.gave range.0 recorded) r v.then;
    }

-- an entry that is looked at in these places and names no record
abbrev Stray : List ℕ → List Place → Type 0
Stray file l = (n : ℕ) × (LooksAt file l n × ((entry file n ≡ 0 → ⊥) × ((7 ≤ entry file n) × (entry file n ≤ highest file) → ⊥)))

-- the test for such an entry
stray_is : (file : List ℕ) (l : List Place) → (names_no_record file l ≡ true) ↔ Stray file l
unfolding names_no_record
stray_is file [] = ((λ e. absurd (false≢true e)), λ x. absurd x.1.0)
stray_is file (s ∷ rest) = go (eqb r 0) refl (stray_is file rest)
  where
    m : ℕ
    m = number s.rectangle

    r : ℕ
    r = entry file m

    -- past an entry of 0
    later : r ≡ 0 → Stray file (s ∷ rest) → Stray file rest
    later z (n, (inl (l, e), (some, other))) = absurd (some (rw e z))
    later z (n, (inr (q, looked), more)) = (n, (looked, more))

    -- at an entry that isn't 0
    here : (r ≡ 0 → ⊥) → Stray file (s ∷ rest) → (7 ≤ r) × (r ≤ highest file) → ⊥
    here some (n, (inl (l, e), (q, other))) = rw e at other
    here some (n, (inr (z, looked), more)) = absurd (some z)

    none : (t : Bool) → is_record r (highest file) ≡ t → ((7 ≤ r) × (r ≤ highest file) → ⊥) → not (is_record r (highest file)) ≡ true
    none true e other = absurd (other (from_7_to_M r (highest file) e))
    none false e other = simp e

    go : (t : Bool) → eqb r 0 ≡ t → (names_no_record file rest ≡ true) ↔ Stray file rest → (names_no_record file (s ∷ rest) ≡ true) ↔ Stray file (s ∷ rest)
    go true e more =
        let z = eqb-true r 0 e in (
          (λ h. let x = more.0 (rw e at h) in (x.0, (inr (z, x.1.0), x.1.1))),
          λ x. rw e (more.1 (later z x)),
        )
    go false e more =
        let some = eqb-false r 0 e in (
          (λ h.
              let no = not-true (is_record r (highest file)) (rw e at h) in
              (m, (inl ((covered_is file m (simp e)).first, refl), (some, λ k. false≢true (sym no ∙ simp (le-leb _ _ k.0, le-leb _ _ k.1)))))),
          λ x. rw e (none (is_record r (highest file)) refl (here some x)),
        )

-- refusal 3 of an entry is given exactly if one is looked at that is neither 0 nor 7 to M
pub no_record_is : (file : List ℕ) (s : Place) → (names_no_record file (allowed s) ≡ true) ↔ NamesNoRecord file s
no_record_is file s =
    let law = stray_is file (allowed s) in (
      (λ e. let x = law.0 e in record { at = x.0; looked = x.1.0; some = x.1.1.0; other = x.1.1.1 }),
      λ k. law.1 (k.at, (k.looked, (k.some, k.other))),
    )

-- what is looked at in a search of a place, tried where the test c holds, and then of others
pub looks_when : (file : List ℕ) (c : Bool) (s : Place) (rest : List Place) (n : ℕ) → LooksAt file (when c s rest) n
    ↔ (((c ≡ true) × ((1 ≤ number s.rectangle) × (n ≡ number s.rectangle))) ⊎ ((c ≡ true → entry file (number s.rectangle) ≡ 0) × LooksAt file rest n))
looks_when file true s rest n = (⊎_elim (λ h. inl (refl, h)) (λ h. inr ((λ t. h.0), h.1)), ⊎_elim (λ h. inl h.1) (λ h. inr (h.0 refl, h.1)))
looks_when file false s rest n = ((λ l. inr ((λ t. absurd (false≢true t)), l)), ⊎_elim (λ h. absurd (false≢true h.0)) (λ h. h.1))
