-- A file that passed its check: it keeps document 01's rules on the ground that it was opened with, so that the record of a covered rectangle lies
-- past the index, in the file, and is that rectangle's own. From the laws of the index, of the ground and of outcomes. Assumes nothing.
use mathlib.Core.Path.{◌≡◌, refl, sym, ◌∙◌}
use mathlib.Core.Bool.{Bool, true, false, not, false≢true}
use mathlib.Core.List.{List}
use mathlib.Core.Logic.{◌↔◌, ◌⊎◌, inl, inr, ⊎_elim}
use Prim.Native.Nat.{ℕ, zero, suc, ◌*◌, ◌≤◌, ◌<◌}
use native.Mathlib.Decide.{dec_lt}
use native.Mathlib.Omega.{arith}
use lib.Dec.{eqb-suc-zero}
use borrow.Author.Tests.{le-leb, eqb-false, not-true, not-false}
use Rattle.ground.specs.Outcome.{given, unless, ◌and_then◌}
use Rattle.ground.specs.Boundary.{y_end, rows, named}
use Rattle.ground.specs.Ground.{ground_of, rows_of, opened}
use Rattle.ground.proofs.Laws.Boundary as boundary
use Rattle.ground.proofs.Laws.Outcome.{past, step}
use Rattle.ground.proofs.Laws.Ground.{IsOpened, opened_is, rows_are}
use Rattle.index.specs.Bytes.{most_records, whole_records, Whole}
use Rattle.index.specs.Index.{position, highest, highest_passes, HighestIn, is_record, index_passes, Passes}
use Rattle.index.proofs.Laws.Bytes.{whole_is, is_whole}
use Rattle.index.proofs.Laws.Passes.{highest_is, passing, passes_is}
use Rattle.terrain.specs.Check.{terrain_of, highest_of, opened_file, checked, Opens, Gave}
use Rattle.terrain.specs.Record.{entry, covered}
use Rattle.terrain.specs.Inside.{opened_on, checked_on}
use Rattle.terrain.specs.declared.check.Terrain.{Terrain}

-- a file that was opened with base b and zone z: its ground was, its length is that of whole records, M is in its range, and M is position 3072's number
pub record IsOpenFile (file : List ℕ) (b z : ℕ) (t : Terrain) : Type 0 where
  pub opened : IsOpened b z t.ground
  pub whole : Whole file
  pub range : HighestIn file
  pub highest : highest_of t ≡ highest file

-- opening a file in two steps: its ground is opened, and then M is tested
pub opened_steps : (file : List ℕ) (b z : ℕ) → opened_file file b z ≡ unless (not (whole_records file)) 1 (opened b z and_then opened_on file)
unfolding opened_file opened_on
opened_steps file b z = go (named b z) refl
  where
    go : (t : Bool) → named b z ≡ t → opened_file file b z ≡ unless (not (whole_records file)) 1 (opened b z and_then opened_on file)
    go true n = simp n
    go false n = simp n

-- the file that was opened
pub opened_file_is : (file : List ℕ) (b z : ℕ) (t : Terrain) → opened_file file b z ≡ given t → IsOpenFile file b z t
unfolding opened_on
opened_file_is file b z t e =
    let w = past (not (whole_records file)) 1 (opened b z and_then opened_on file) t (sym (opened_steps file b z) ∙ e) in
    let s = step (opened b z) (opened_on file) t w.1 in
    let g = s.value in
    let p = past (not (highest_passes file)) 3 (given (terrain_of g (highest file))) t s.then in
    let i : t ≡ terrain_of g (highest file) = cc p.1 in
    rw i (record {
      opened = opened_is b z g s.gave;
      whole = whole_is file (not-false _ w.0);
      range = (highest_is file).0 (not-false _ p.0);
      highest = omega (arith, ((highest_is file).0 (not-false _ p.0)).least);
    })

-- the file that was opened, where a function was handed it as open
pub opens_is : {file : List ℕ} {t : Terrain} (f : Opens file t) → IsOpenFile file f.base f.zone t
opens_is f = opened_file_is _ _ _ _ f.gave

-- the records from 7 to M of a file that was opened are no more than a file may have
pub past_most : {file : List ℕ} {t : Terrain} → Opens file t → t.past ≤ most_records
past_most f = let o = opens_is f in omega (arith, o.highest, o.range, o.whole)

-- the check in two steps: the file is opened, and then its index is checked
pub checked_steps : (file : List ℕ) (b z : ℕ) → checked file b z ≡ (opened_file file b z and_then checked_on file)
unfolding rows opened_file checked checked_on index_passes
checked_steps file b z = go (whole_records file) (named b z) (highest_passes file) refl refl refl
  where
    go : (w n h : Bool) → whole_records file ≡ w → named b z ≡ n → highest_passes file ≡ h → checked file b z ≡ (opened_file file b z and_then checked_on file)
    go false n h e f g = simp e
    go true false h e f g = simp (e, f)
    go true true false e f g = simp (e, f, g)
    go true true true e f g = simp (e, f, g)

-- a file that passed was opened, and its index passed
pub checked_opens : (file : List ℕ) (b z : ℕ) (t : Terrain) → checked file b z ≡ given t
    → (opened_file file b z ≡ given t) × (index_passes file (rows_of t.ground) ≡ true)
unfolding checked_on
checked_opens file b z t e =
    let s = step (opened_file file b z) (checked_on file) t (sym (checked_steps file b z) ∙ e) in
    let p = past (not (index_passes file (rows_of s.value.ground))) 3 (given s.value) t s.then in
    let i : s.value ≡ t = cc p.1 in
    (rw i at s.gave, rw i at (not-false (index_passes file (rows_of s.value.ground)) p.0))

-- what the check gave for the file of base b and zone z: its ground was opened, it keeps the rules, and M is position 3072's number
pub record IsChecked (file : List ℕ) (b z : ℕ) (t : Terrain) : Type 0 where
  pub opened : IsOpened b z t.ground
  pub passes : Passes file (rows b)
  pub highest : highest_of t ≡ highest file

-- the file that passed
pub checked_is : (file : List ℕ) (b z : ℕ) (t : Terrain) → checked file b z ≡ given t → IsChecked file b z t
checked_is file b z t e =
    let k = checked_opens file b z t e in
    let o = opened_file_is file b z t k.0 in
    record {
      opened = o.opened;
      passes = passing file (rows b) (is_whole file o.whole) (rw (o.opened.is, rows_are b z) at k.1);
      highest = o.highest;
    }

-- the file that passed, where a function was handed it as checked
pub gave_is : {file : List ℕ} {t : Terrain} (f : Gave file t) → IsChecked file f.base f.zone t
gave_is f = checked_is _ _ _ _ f.gave

-- a file that passed was opened
pub gave_opens : {file : List ℕ} {t : Terrain} → Gave file t → Opens file t
gave_opens f = record { base = f.base; zone = f.zone; gave = (checked_opens _ _ _ _ f.gave).0 }

-- no file ends north of the last one
pub north_most : {file : List ℕ} {t : Terrain} → Gave file t → t.ground.north.0 ≤ y_end
north_most f =
    let o = (gave_is f).opened in
    rw o.is (boundary.north_most f.base o.named.most)

-- a file that keeps the rules passes, with a base and a zone that are named
pub check_passes : (file : List ℕ) (b z : ℕ) → named b z ≡ true → Passes file (rows b)
    → checked file b z ≡ given (terrain_of (ground_of b z) (highest file))
unfolding checked
check_passes file b z n p =
    let t = (passes_is file (rows b)).1 p in
    simp (t.0, n, t.1)

-- a file passes exactly if its base and zone are named and it keeps document 01's rules
pub check_exactly : (file : List ℕ) (b z : ℕ) → ((t : Terrain) × (checked file b z ≡ given t)) ↔ ((named b z ≡ true) × Passes file (rows b))
check_exactly file b z = ((λ x. let c = checked_is file b z x.0 x.1 in (c.opened.named.is, c.passes)), λ k. (_, check_passes file b z k.0 k.1))

-- a rectangle that is covered has a position, which holds a number
pub record Covered (file : List ℕ) (n : ℕ) : Type 0 where
  pub first : 1 ≤ n
  pub entry : entry file n ≡ position file n
  pub some : position file n ≡ 0 → ⊥

-- what the test for a covered rectangle means
pub covered_is : (file : List ℕ) (n : ℕ) → covered file n ≡ true → Covered file n
unfolding entry
covered_is file zero c = absurd (false≢true c)
covered_is file (suc n) c =
    record { first = omega arith; entry = rw eqb-suc-zero; some = eqb-false _ _ (not-true _ (rw (eqb-suc-zero n) at c)) }

-- rectangle n is not covered exactly if it is rectangle 0, which has no position, or its position holds 0
pub not_covered : (file : List ℕ) (n : ℕ) → (entry file n ≡ 0) ↔ ((n ≡ 0) ⊎ (position file n ≡ 0))
unfolding entry
not_covered file zero = ((λ e. inl refl), λ x. refl)
not_covered file (suc n) = rw eqb-suc-zero (inr, ⊎_elim (λ e. absurd (omega arith)) (λ z. z))

module _ {file : List ℕ} {rows : ℕ} (p : Passes file rows) where
  -- what the index says of a rectangle of the file: nothing, or a record from 7 to M
  entry_is : (n : ℕ) → n < 100 * rows → (entry file n ≡ 0) ⊎ ((7 ≤ entry file n) × (entry file n ≤ highest file))
  unfolding entry
  entry_is zero h = inl refl
  entry_is (suc n) h = rw eqb-suc-zero (p.entries (suc n) (omega arith) h)

  -- the entry of a covered rectangle is a record's, from 7 to M
  pub record_named : (n : ℕ) → n < 100 * rows → covered file n ≡ true → is_record (entry file n) (highest file) ≡ true
  record_named n h c =
      ⊎_elim (λ z. absurd (eqb-false _ _ (not-true _ c) z)) (λ r. simp (le-leb _ _ r.0, le-leb _ _ r.1)) (entry_is n h)

  -- the record of a covered rectangle is that of no other
  pub own : (m n : ℕ) → m < 100 * rows → n < 100 * rows → covered file m ≡ true → covered file n ≡ true → entry file m ≡ entry file n → m ≡ n
  own m n hm hn cm cn e = go (dec_lt m n) (dec_lt n m)
    where
      k : Covered file m
      k = covered_is file m cm

      l : Covered file n
      l = covered_is file n cn

      same : position file m ≡ position file n
      same = sym k.entry ∙ e ∙ l.entry

      go : Dec (m < n) → Dec (n < m) → m ≡ n
      go (yes h) d = absurd (l.some (p.once m n k.first h hn same))
      go (no g) (yes h) = absurd (k.some (p.once n m l.first h hm (sym same)))
      go (no g) (no h) = omega arith
