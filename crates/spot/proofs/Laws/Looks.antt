-- A spot looks at nothing else: two files of one length that agree in M, in the entries of the point's rectangles up to the first that isn't 0, and in the words
-- that weigh in of the record that it names, give the same answer. From the laws of a spot, of the record taken and of bytes. Assumes nothing.
use mathlib.Core.Path.{◌≡◌, refl, sym, ◌∙◌}
use mathlib.Core.Logic.{inl, inr}
use mathlib.Core.Bool.{Bool, true, false, not}
use mathlib.Core.List.{List, [], ◌∷◌}
use Prim.Native.Nat.{ℕ, zero, suc, ◌+◌, ◌-◌, ◌*◌, ◌≤◌, ◌<◌}
use native.Mathlib.Omega.{arith}
use lib.Dec.{eqb, eqb-suc-zero}
use lib.ListN.{length, get_or}
use borrow.Author.Tests.{eqb-true, not-false}
use Rattle.ground.specs.Outcome.{given}
use Rattle.ground.specs.Boundary.{named}
use Rattle.ground.specs.Ground.{ground_of, holds}
use Rattle.ground.specs.Place.{number, place_of, words_of, AtEach}
use Rattle.ground.specs.Seam.{allowed}
use Rattle.ground.specs.declared.point.Point.{Point}
use Rattle.ground.specs.declared.place.Place.{Place}
use Rattle.ground.proofs.Laws.Outcome.{same_steps, same_past}
use Rattle.ground.proofs.Laws.Seam.{words_within}
use Rattle.index.specs.Bytes.{position_byte, nth, record_start, record_bytes, whole_records}
use Rattle.index.specs.Index.{position, highest, highest_passes}
use Rattle.index.proofs.Laws.Bytes.{record_byte}
use Rattle.terrain.specs.Record.{entry, first_covered, taken}
use Rattle.terrain.specs.declared.record.Taken.{Taken}
use Rattle.terrain.proofs.Laws.Taken.{taken_holds}
use Rattle.reading.specs.Corner.{corner, corners_at}
use Rattle.reading.specs.Reading.{read_corners, read_taken}
use Rattle.spot.specs.Spot.{names_no_record, spot, LooksAt}
use Rattle.spot.proofs.Laws.Spot.{taken_named}

-- the bytes k and k + 1 are the same in both files
abbrev pub SameAt : (f g : List ℕ) → ℕ → Type 0
SameAt f g k = (get_or f k 0 ≡ get_or g k 0) × (get_or f (k + 1) 0 ≡ get_or g (k + 1) 0)

-- two files agree in all that a spot looks at
pub record Alike (f g : List ℕ) (b z : ℕ) (p : Point) : Type 0 where
  pub long : length f ≡ length g
  pub top : SameAt f g (position_byte 3072)
  pub entries : (n : ℕ) → LooksAt f (allowed (place_of (ground_of b z) p)) n → SameAt f g (position_byte n)
  pub words : (t : Taken) → taken f (place_of (ground_of b z) p) ≡ given t → 7 ≤ t.entry → t.entry ≤ highest f
      → AtEach (λ w weight. 0 < weight → SameAt f g (record_start t.entry + position_byte w)) (words_of t.place) t.place.weights

module _ (f g : List ℕ) where
  same_position : (n : ℕ) → SameAt f g (position_byte n) → position f n ≡ position g n
  unfolding nth
  same_position n s = rw (s.0, s.1)

  -- an entry is the same where its position, if there is one, is
  same_entry : (n : ℕ) → (1 ≤ n → position f n ≡ position g n) → entry f n ≡ entry g n
  unfolding entry
  same_entry zero same = refl
  same_entry (suc n) same = rw (eqb-suc-zero n) (same (omega arith))

  -- a search of these places comes to the same in both files
  abbrev SameSearch : List Place → Type 0
  SameSearch l = (names_no_record f l ≡ names_no_record g l) × (first_covered f l ≡ first_covered g l)

  -- it does where all positions that it looks at hold the same
  same_search : highest f ≡ highest g → (l : List Place) → ((n : ℕ) → LooksAt f l n → position f n ≡ position g n) → SameSearch l
  unfolding names_no_record first_covered
  same_search top [] same = (refl, refl)
  same_search top (s ∷ rest) same =
      go (eqb (entry f (number s.rectangle)) 0) refl λ z. same_search top rest λ n a. same n (inr (z, a))
    where
      e : entry f (number s.rectangle) ≡ entry g (number s.rectangle)
      e = same_entry (number s.rectangle) λ l. same (number s.rectangle) (inl (l, refl))

      go : (t : Bool) → eqb (entry f (number s.rectangle)) 0 ≡ t → (entry f (number s.rectangle) ≡ 0 → SameSearch rest) → SameSearch (s ∷ rest)
      go true z more = let m = more (eqb-true _ _ z) in (simp (← e, z) m.0, simp (← e, z) m.1)
      go false z more = (simp (← e, z, top), simp (← e, z))

  -- a word of a record is the same where its two bytes are
  same_word : (r w : ℕ) → w ≤ 512 → SameAt f g (record_start r + position_byte w) → nth (record_bytes f r) w ≡ nth (record_bytes g r) w
  unfolding nth
  same_word r w h s =
      let k = position_byte w in
      let next : 1024 * (r - 1) + (k + 1) ≡ 1024 * (r - 1) + k + 1 = omega arith in
      let at : (file : List ℕ) → nth (record_bytes file r) w ≡ 256 * get_or file (1024 * (r - 1) + k) 0 + get_or file (1024 * (r - 1) + k + 1) 0 =
      λ file. rw (record_byte file r k (omega arith), record_byte file r (k + 1) (omega arith), next) in
      let same : 256 * get_or f (1024 * (r - 1) + k) 0 + get_or f (1024 * (r - 1) + k + 1) 0 ≡ 256 * get_or g (1024 * (r - 1) + k) 0 + get_or g (1024 * (r - 1) + k + 1) 0 =
      rw (s.0, s.1) in
      at f ∙ same ∙ sym (at g)

  -- a corner is the same where its word is, if it weighs in
  same_corner : (r w weight : ℕ) → (0 < weight → w ≤ 512) → (0 < weight → SameAt f g (record_start r + position_byte w))
      → corner (record_bytes f r) w weight ≡ corner (record_bytes g r) w weight
  unfolding corner
  same_corner r w zero within same = refl
  same_corner r w (suc n) within same = rw (same_word r w (within (omega arith)) (same (omega arith)))

  -- the reading from a record is the same where the words that weigh in are
  same_reading : (t : Taken) → AtEach (λ w weight. (1 ≤ w) × (0 < weight → w ≤ 512)) (words_of t.place) t.place.weights
      → AtEach (λ w weight. 0 < weight → SameAt f g (record_start t.entry + position_byte w)) (words_of t.place) t.place.weights
      → read_taken f t ≡ read_taken g t
  unfolding read_taken corners_at
  same_reading t within same =
      let sw = same_corner t.entry _ _ within.sw.1 same.sw in
      let se = same_corner t.entry _ _ within.se.1 same.se in
      let nw = same_corner t.entry _ _ within.nw.1 same.nw in
      let ne = same_corner t.entry _ _ within.ne.1 same.ne in
      λ i. read_corners (record { sw = sw i; se = se i; nw = nw i; ne = ne i })

  -- the tests of the length and of M go alike
  same_whole : length f ≡ length g → whole_records f ≡ whole_records g
  unfolding whole_records
  same_whole e = rw e

  same_highest : length f ≡ length g → highest f ≡ highest g → highest_passes f ≡ highest_passes g
  unfolding highest_passes
  same_highest e top = rw (e, top)

  -- files that are alike in all that a spot looks at give the same answer
  pub looks_at_nothing_else : (b z : ℕ) (p : Point) → Alike f g b z p → spot f b z p ≡ spot g b z p
  unfolding spot taken
  looks_at_nothing_else b z p a =
      let s = place_of (ground_of b z) p in
      let top = same_position 3072 a.top in
      let search = same_search top (allowed s) λ n l. same_position n (a.entries n l) in
      rw (← same_whole a.long, ← same_highest a.long top, ← search.0, ← search.1)
      (same_past (not (whole_records f)) 1 λ w.
      same_past (not (named b z)) 2 λ n.
      same_past (not (highest_passes f)) 3 λ h.
      same_past (not (holds (ground_of b z) p)) 4 λ o.
      same_past (names_no_record f (allowed s)) 3 λ ok.
      same_steps (first_covered f (allowed s)) λ t e.
      let r = taken_named f (allowed s) t ok e in
      same_reading t (words_within (taken_holds f (ground_of b z) p (not-false _ o) t e)) (a.words t e r.0 r.1))
