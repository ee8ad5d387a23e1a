-- Document 02, request c), in the caller's own fields: in a file that passes the check a spot answers as the full reading does, refusals included; in any file
-- what is read of it is the mean of the record that its entry names; and it looks at nothing else, which is said over the bytes of two files. With the
-- sentences of `Document`, which say which positions are looked at and when an entry names no record, no definition between the bytes and the answer can be
-- wrong in the same way as the program. From the laws of a spot and demand 2. Assumes nothing.
use mathlib.Core.Path.{◌≡◌, refl, sym, ◌∙◌, ap}
use mathlib.Core.Logic.{◌↔◌}
use mathlib.Core.Bool.{cond}
use mathlib.Core.List.{List, [], ◌∷◌}
use Prim.Native.Nat.{ℕ, ◌+◌, ◌-◌, ◌*◌, ◌/◌, ◌%◌, ◌≤◌, ◌<◌}
use native.Mathlib.Omega.{arith}
use lib.Dec.{eqb}
use lib.ListN.{length, get_or}
use Rattle.ground.specs.Outcome.{given}
use Rattle.ground.specs.Place.{number, place_at, place_of}
use Rattle.ground.specs.declared.point.Point.{Point}
use Rattle.ground.specs.declared.place.Place.{Place}
use Rattle.ground.proofs.Laws.Seam as seam
use Rattle.ground.proofs.Laws.Seam.{Four, four_is}
use Rattle.index.specs.Bytes.{position_byte, nth, record_start}
use Rattle.terrain.specs.Record.{taken}
use Rattle.terrain.specs.declared.check.CheckAnswer.{CheckAnswer}
use Rattle.terrain.specs.declared.record.Taken.{Taken}
use Rattle.terrain.proofs.Laws.Checked.{covered_is}
use Rattle.terrain.proofs.Laws.Taken.{taken_first}
use Rattle.reading.specs.Reading.{read_answer}
use Rattle.reading.specs.Vote.{Greatest}
use Rattle.reading.specs.Demand.{Readable, SomeLacks, Mean, IsMean}
use Rattle.reading.specs.declared.point.ReadAnswer.{ReadAnswer}
use Rattle.spot.specs.Spot.{SpotIsMean}
use Rattle.spot.proofs.Laws.Spot.{spot_is_reading, spot_mean}
use Rattle.spot.proofs.Laws.Looks as looks
use Rattle.spot.proofs.Laws.Looks.{Alike}
use Rattle.janlishuk.specs.Order.{FirstOf, OnGround, placed, no}
use Rattle.janlishuk.specs.Promise.{Checks, Reads, Spots}
use Rattle.janlishuk.proofs.Laws.Line.{was_given, first_of, in_words, unlike}
use Rattle.janlishuk.proofs.Laws.Order.{file_order, spot_order}
use Rattle.janlishuk.proofs.Demand2.{read_exactly, reading_is_mean}
use Rattle.janlishuk.proofs.Document.{fx, fy, corner_weights, at, standing, Looked, looked_means, own_position, Long, whole_means, NamedIn, named_means, highest_means, Grounded, ground_means, NamesNone, names_none_means, NoneCovered, uncovered_means}
use Rattle.janlishuk.proofs.Bytes.{over, mean_height, mean_code}

module _ (file after : List ℕ) (b z : ℕ) (p : Point) (s : ReadAnswer) (spots : Spots file after b z p s) where
  -- "For every file that passes the check it answers as the full reading does, refusals included."
  module _ (c : CheckAnswer) (checks : Checks file after b z c) (passes : c.refusal ≡ 0) where
    spot_reads : Reads file after b z p s
    spot_reads =
        let t = was_given (file_order file b z) (rw checks.0 at passes) in
        (spots.0 ∙ ap read_answer (spot_is_reading file b z t.0 t.1 p), spots.1)

    pub spot_is_read : (r : ReadAnswer) → Reads file after b z p r → s ≡ r
    spot_is_read r reads = spot_reads.0 ∙ sym reads.0

    -- so that demand 2 holds of a spot of the file's zone and on its ground
    module _ (on : OnGround b z p) where
      pub spot_exactly : (s.refusal ≡ 0) ↔ Readable file (placed b z p)
      spot_exactly = read_exactly file after b z c checks passes p on s spot_reads

      pub spot_is_mean : s.refusal ≡ 0 → IsMean file b z p (record { height = s.height; code = s.code })
      spot_is_mean = reading_is_mean file after b z c checks passes p on s spot_reads

  -- "Refusals: 1, 2, 3 for M outside its range, 4, then 3 for the first entry looked at that is neither 0 nor 7 to M, then 5 and 6": the first of these that
  -- holds, in bytes and numbers, gives its number, and the place 0
  pub spot_refuses : FirstOf
      (no 1 (Long file → ⊥)
      ∷ no 2 (NamedIn b z → ⊥)
      ∷ no 3 ((6 ≤ at file 3072) × (at file 3072 ≤ length file / 1024) → ⊥)
      ∷ no 4 (Grounded b z p → ⊥)
      ∷ no 3 (NamesNone file b z p)
      ∷ no 5 (NoneCovered file b z p)
      ∷ no 6 (SomeLacks file (placed b z p))
      ∷ [])
      s.refusal s.place
  spot_refuses =
      rw spots.0 (
      in_words (unlike (whole_means file)) (
      in_words (unlike (named_means b z)) (
      in_words (unlike (highest_means file)) (
      in_words (unlike (ground_means b z p)) (
      in_words (names_none_means file b z p) (
      in_words (uncovered_means file b z p) λ six. six)))))
      (first_of (spot_order file b z p))
      )

  -- In any file a spot that is read is the mean of the record that its entry names, a record from 7 to M whose rectangle's grid holds the point.
  pub spot_follows : s.refusal ≡ 0 → SpotIsMean file b z p (record { height = s.height; code = s.code })
  spot_follows e =
      let g = was_given (spot_order file b z p) (rw spots.0 at e) in
      rw (spots.0, g.1) (spot_mean file b z p g.0 g.1)

  -- in bytes: such a spot that is read from the record of rectangle 100 iy + ix, in this row and column
  module _ (is : s.refusal ≡ 0) (iy ix row column : ℕ) (from : taken file (placed b z p) ≡ given (standing file b z p iy ix row column)) where
    spot_mean_there : Mean file (standing file b z p iy ix row column) (record { height = s.height; code = s.code })
    spot_mean_there =
        let m = spot_follows is in
        let i : m.source ≡ standing file b z p iy ix row column = cc (m.taken, from) in
        rw i at m.mean

    pub spot_height_in_bytes : s.height ≡ over file b z p iy ix row column (λ word weight. weight * (word % 8192))
    spot_height_in_bytes = mean_height file b z p iy ix row column _ spot_mean_there

    pub spot_code_in_bytes : Greatest (λ code. over file b z p iy ix row column (λ word weight. cond (eqb (word / 8192) code) weight 0)) 7 s.code
    spot_code_in_bytes = mean_code file b z p iy ix row column _ spot_mean_there

-- the bytes k and k + 1 are the same in both files; `SameAt` of `spot`, said here again so that the theorem can be read alone
abbrev pub SameBytes : (f g : List ℕ) → ℕ → Type 0
SameBytes f g k = (get_or f k 0 ≡ get_or g k 0) × (get_or f (k + 1) 0 ≡ get_or g (k + 1) 0)

-- Two files agree in all that a spot may look at, byte by byte.
pub record SameForSpot (f g : List ℕ) (b z : ℕ) (p : Point) : Type 0 where
  -- they have one length,
  pub long : length f ≡ length g
  -- the bytes of M are the same,
  pub M : SameBytes f g 6142
  -- those of the point's entries up to the first that isn't 0,
  pub entries : (n : ℕ) → Looked f b z p n → SameBytes f g (2 * (n - 1))
  -- and, of the record that this one names, if it is from 7 to M, those of the words of the corners that weigh in
  pub words : (iy ix row column : ℕ) → taken f (placed b z p) ≡ given (standing f b z p iy ix row column) → 7 ≤ at f (100 * iy + ix)
      → at f (100 * iy + ix) ≤ at f 3072
      → (
      let e : ℕ = fx b z p in
      let n : ℕ = fy b z p in
      let same : ℕ → ℕ → Type 0 = λ i j. SameBytes f g (1024 * (at f (100 * iy + ix) - 1) + 2 * (16 * i + j)) in
      (0 < (500 - e) * (500 - n) → same row column)
      × (0 < e * (500 - n) → same row (column + 1))
      × (0 < (500 - e) * n → same (row + 1) column)
      × (0 < e * n → same (row + 1) (column + 1))
      )

module _ (f g : List ℕ) (b z : ℕ) (p : Point) where
  -- the record taken is that of a position, in a row and a column
  standing_is : (t : Taken) → taken f (placed b z p) ≡ given t
      → t ≡ standing f b z p t.place.rectangle.iy t.place.rectangle.ix t.place.wy.0 t.place.wx.0
  unfolding place_of place_at
  standing_is t e =
      let first = taken_first f (placed b z p) t e in
      let n = number t.place.rectangle in
      let named = own_position f n (covered_is f n first.covered).first in
      let same = keeps t.place ((four_is (placed b z p) t.place).0 first.among) in
      first.is ∙ λ i. record { entry = named i; place = same i }
    where
      keeps : (u : Place) → Four (placed b z p) u
          → u ≡ record { rectangle = u.rectangle; wx = u.wx; wy = u.wy; fx = (placed b z p).fx; fy = (placed b z p).fy; weights = (placed b z p).weights }
      keeps u (seam.own e) = rw e refl
      keeps u (seam.west w e) = rw e refl
      keeps u (seam.south v e) = rw e refl
      keeps u (seam.corner w v e) = rw e refl

  alike : SameForSpot f g b z p → Alike f g b z p
  unfolding nth
  alike same =
      record {
        long = same.long;
        top = same.M;
        entries = λ n l. same.entries n ((looked_means f b z p n).0 l);
        words = λ t e least most.
            let q = standing_is t e in
            let entry = ap (λ (u : Taken). u.entry) q in
            let weights = ap (λ (u : Taken). u.place.weights) q ∙ corner_weights b z p in
            let row = t.place.wy.0 in
            let column = t.place.wx.0 in
            let words = same.words t.place.rectangle.iy t.place.rectangle.ix row column (e ∙ ap given q) (rw entry at least) (rw entry at most) in
            let there : (w i j : ℕ) → w ≡ 16 * i + j + 1
            → SameBytes f g (1024 * (at f (number t.place.rectangle) - 1) + 2 * (16 * i + j)) → SameBytes f g (record_start t.entry + position_byte w) =
            λ w i j v s.
            let k : record_start t.entry + position_byte w ≡ 1024 * (at f (number t.place.rectangle) - 1) + 2 * (16 * i + j) = omega (arith, entry) in
            rw k s in
            record {
              sw = λ l. there _ row column (omega arith) (words.0 (rw weights at l));
              se = λ l. there _ row (column + 1) (omega arith) (words.1 (rw weights at l));
              nw = λ l. there _ (row + 1) column (omega arith) (words.2 (rw weights at l));
              ne = λ l. there _ (row + 1) (column + 1) (omega arith) (words.3 (rw weights at l));
            };
      }

  -- "looks at the length, base, zone, M, and this point's entries in the order of request b), stopping at the first that isn't 0, and at no others": files that
  -- agree in what a spot may look at give the same answer
  pub looks_at_nothing_else : SameForSpot f g b z p → (f' g' : List ℕ) (r s : ReadAnswer) → Spots f f' b z p r → Spots g g' b z p s → r ≡ s
  looks_at_nothing_else same f' g' r s first second =
      first.0 ∙ ap read_answer (looks.looks_at_nothing_else f g b z p (alike same)) ∙ sym second.0

  -- A spot in a damaged file g that agrees with a file f that passes in all that it looks at is the reading in f.
  pub damage_not_seen : SameForSpot f g b z p → (f' g' : List ℕ) (c : CheckAnswer) → Checks f f' b z c → c.refusal ≡ 0
      → (r s : ReadAnswer) → Reads f f' b z p r → Spots g g' b z p s → s ≡ r
  damage_not_seen same f' g' c checks passes r s reads spots =
      sym (looks_at_nothing_else same f' g' _ s (refl, checks.1) spots) ∙ spot_is_read f f' b z p _ (refl, checks.1) c checks passes r reads
