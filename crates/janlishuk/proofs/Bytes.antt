-- When a file is refused and when a point is, in bytes and numbers; and what is read of a point, in bytes of the file and in document 01's letters: when it is
-- refused with 5 and with 6, and else its height and its code. With the sentences of `Document`, which say in which row and column of which record it is read,
-- no definition between the bytes and the answer can be wrong in the same way as the program. From these, demand 2 and the laws of the record taken. Assumes
-- nothing.
use mathlib.Core.Path.{◌≡◌, refl, sym, ◌∙◌, ap}
use mathlib.Core.Logic.{◌⊎◌, ⊎_elim, ◌↔◌}
use mathlib.Core.Bool.{Bool, true, false, cond, false≢true}
use mathlib.Core.List.{List, [], ◌∷◌}
use Prim.Native.Nat.{ℕ, zero, suc, ◌+◌, ◌-◌, ◌*◌, ◌/◌, ◌%◌, ◌≤◌, ◌<◌}
use native.Mathlib.Nat.{zero-mul}
use native.Mathlib.Omega.{arith}
use lib.Dec.{eqb}
use lib.ListN.{get_or}
use Rattle.ground.specs.Outcome.{Outcome, given, unless, ◌and_then◌, refusal_number}
use Rattle.ground.specs.Ground.{ground_of}
use Rattle.ground.specs.Place.{weights_of, place_at, place_of}
use Rattle.ground.specs.declared.point.Point.{Point}
use Rattle.ground.proofs.Laws.Test.{either}
use Rattle.ground.proofs.Laws.Seam.{words_within}
use Rattle.index.specs.Bytes.{nth, record_bytes}
use Rattle.index.proofs.Laws.Bytes.{record_byte}
use Rattle.terrain.specs.Check.{checked}
use Rattle.terrain.specs.Record.{taken}
use Rattle.terrain.specs.declared.check.Terrain.{Terrain}
use Rattle.terrain.specs.declared.check.CheckAnswer.{CheckAnswer}
use Rattle.terrain.specs.declared.record.Taken.{Taken}
use Rattle.terrain.proofs.Laws.Taken.{taken_or_5, taken_holds}
use Rattle.terrain.specs.Word.{word_of}
use Rattle.reading.specs.Corner.{corner, corners_at, corners_of, lacks_height, any_lacks_height}
use Rattle.reading.specs.Reading.{read_corners, read_taken}
use Rattle.reading.specs.Vote.{Greatest}
use Rattle.reading.specs.Demand.{SomeLacks, Mean}
use Rattle.reading.specs.declared.point.Reading.{Reading}
use Rattle.reading.specs.declared.point.ReadAnswer.{ReadAnswer}
use Rattle.reading.proofs.Laws.Corner.{corner_lacks}
use Rattle.reading.proofs.Laws.Reading.{some_lacks, at_place}
use Rattle.reading.proofs.Laws.Vote.{no_weight, greatest_by}
use Rattle.janlishuk.specs.Order.{FirstOf, OnGround, placed, no}
use Rattle.janlishuk.specs.Promise.{Checks, Reads}
use Rattle.janlishuk.proofs.Laws.Line.{was_given, first_of, in_words, unlike}
use Rattle.janlishuk.proofs.Laws.Order.{on_ground_lem, file_order, reading_order}
use Rattle.janlishuk.proofs.Demand2.{reading_is_mean}
use Rattle.janlishuk.proofs.Document.{fx, fy, corner_weights, at, standing, NoneCovered, uncovered_means, Long, whole_means, Rules, passes_means, NamedIn, named_means, Grounded, ground_means}

-- "1: the length is not 1024 times a number from 6 to 4096. 2: base or zone is not one of those named. 3: M or a position breaks the rules": the first of these
-- that holds, in bytes and numbers, gives its number, and the place 0
pub check_refuses : (file after : List ℕ) (b z : ℕ) (c : CheckAnswer) → Checks file after b z c
    → FirstOf (no 1 (Long file → ⊥) ∷ no 2 (NamedIn b z → ⊥) ∷ no 3 (Rules file b → ⊥) ∷ []) c.refusal c.place
check_refuses file after b z c checks =
    rw checks.0 (
    in_words (unlike (whole_means file)) (in_words (unlike (named_means b z)) (in_words (unlike (passes_means file b)) λ none. none))
    (first_of (file_order file b z))
    )

-- and of a point after these "4: the point is not of the file's zone or not on its ground. 5: none of the rectangles that it may be read from is covered. 6: a
-- corner that weighs in has no height"
pub read_refuses : (file after : List ℕ) (b z : ℕ) (p : Point) (r : ReadAnswer) → Reads file after b z p r → FirstOf
    (no 1 (Long file → ⊥)
    ∷ no 2 (NamedIn b z → ⊥)
    ∷ no 3 (Rules file b → ⊥)
    ∷ no 4 (Grounded b z p → ⊥)
    ∷ no 5 (NoneCovered file b z p)
    ∷ no 6 (SomeLacks file (placed b z p))
    ∷ [])
    r.refusal r.place
read_refuses file after b z p r reads =
    rw reads.0 (
    in_words (unlike (whole_means file)) (
    in_words (unlike (named_means b z)) (
    in_words (unlike (passes_means file b)) (
    in_words (unlike (ground_means b z p)) (in_words (uncovered_means file b z p) λ six. six))))
    (first_of (reading_order file b z p))
    )

-- the word in this row and column of rectangle n, 16 words a row, in the record that its position names, high byte first
abbrev pub stored : List ℕ → (n row column : ℕ) → ℕ
stored file n row column =
    let k : ℕ = 1024 * (at file n - 1) + 2 * (16 * row + column) in
    256 * get_or file k 0 + get_or file (k + 1) 0

-- word w of a record, in bytes of the file
in_bytes : (file : List ℕ) (r k w : ℕ) → w ≡ k + 1 → w ≤ 512
    → nth (record_bytes file r) w ≡ 256 * get_or file (1024 * (r - 1) + 2 * k) 0 + get_or file (1024 * (r - 1) + 2 * k + 1) 0
unfolding nth
in_bytes file r k w v h =
    let d : 2 * (w - 1) ≡ 2 * k = omega (arith, v) in
    let e : 1024 * (r - 1) + (2 * k + 1) ≡ 1024 * (r - 1) + 2 * k + 1 = omega arith in
    rw (d, record_byte file r (2 * k) (omega (arith, v)), record_byte file r (2 * k + 1) (omega (arith, v)), e)

-- when a corner lacks a height, in bytes of the file
lacks_in_bytes : (file : List ℕ) (r w k weight : ℕ) → w ≡ k + 1 → (0 < weight → w ≤ 512)
    → (lacks_height (corner (record_bytes file r) w weight) ≡ true)
    ↔ ((0 < weight) × ((256 * get_or file (1024 * (r - 1) + 2 * k) 0 + get_or file (1024 * (r - 1) + 2 * k + 1) 0) % 8192 ≡ 8191))
lacks_in_bytes file r w k weight v within =
    let law = corner_lacks (record_bytes file r) w weight in (
      (λ h. let x = law.0 h in (x.0, rw (in_bytes file r k w v (within x.0)) at x.1)),
      λ x. law.1 (x.0, rw (in_bytes file r k w v (within x.0)) x.1),
    )

-- what a corner adds to a sum depends on its word only where it weighs in
part : (add : (word weight : ℕ) → ℕ) → ((word : ℕ) → add word 0 ≡ 0) → (word word' weight : ℕ) → (0 < weight → word ≡ word') → add word weight ≡ add word' weight
part add none word word' zero same = none word ∙ sym (none word')
part add none word word' (suc k) same = ap (λ (v : ℕ). add v (suc k)) (same (omega arith))

-- a reading from a record taken is refused with 6 exactly if a corner lacks a height, and never with 5
record SixOnly (number : ℕ) (lacks : Bool) : Type 0 where
  pub six : (number ≡ 6) ↔ (lacks ≡ true)
  pub not5 : number ≡ 5 → ⊥

six_only : (file : List ℕ) (t : Taken) → SixOnly (refusal_number (read_taken file t)) (any_lacks_height (corners_of file t))
unfolding read_taken read_corners
six_only file t = go (any_lacks_height (corners_of file t)) _
  where
    go : (lacks : Bool) (read : Reading) → SixOnly (refusal_number (unless lacks 6 (given read))) lacks
    go true read = record { six = ((λ e. refl), λ e. refl); not5 = λ e. omega arith }
    go false read = record { six = ((λ e. absurd (omega arith)), λ e. absurd (false≢true e)); not5 = λ e. omega arith }

-- A point of the file's zone and on its ground, in a file that passes the check:
module _ (file after : List ℕ) (b z : ℕ) (c : CheckAnswer) (checks : Checks file after b z c) (passes : c.refusal ≡ 0)
    (p : Point) (on : OnGround b z p) (r : ReadAnswer) (reads : Reads file after b z p r) where
  terrain : (t : Terrain) × (checked file b z ≡ given t)
  terrain = was_given (file_order file b z) (rw checks.0 at passes)

  -- the refusal is that of the reading from the record taken
  refusal_is : r.refusal ≡ refusal_number (taken file (placed b z p) and_then read_taken file)
  refusal_is = ap (λ (a : ReadAnswer). a.refusal) reads.0 ∙ ap refusal_number (at_place file b z terrain.0 terrain.1 p ((on_ground_lem b z p).1 on))

  -- "5 when none of the allowed rectangles is covered"
  pub five_exactly : (r.refusal ≡ 5) ↔ NoneCovered file b z p
  five_exactly = (
    (λ e. (uncovered_means file b z p).0 λ t g. (six_only file t).not5 (sym (refusal_is ∙ ap refusal_number (ap (λ (o : Outcome Taken). o and_then read_taken file) g)) ∙ e)),
    λ k. ⊎_elim (λ x. absurd ((uncovered_means file b z p).1 k x.0 x.1)) (λ e. refusal_is ∙ rw e) (taken_or_5 file (placed b z p)),
  )

-- A point in this row and column of the record of rectangle 100 iy + ix:
module _ (file : List ℕ) (b z : ℕ) (p : Point) (iy ix row column : ℕ) where
  -- the sum over the four corners, each by its word and its weight
  abbrev pub over : (add : (word weight : ℕ) → ℕ) → ℕ
  over add =
      let word : ℕ → ℕ → ℕ = stored file (100 * iy + ix) in
      let f : ℕ = fx b z p in
      let g : ℕ = fy b z p in
      add (word row column) ((500 - f) * (500 - g))
      + add (word row (column + 1)) (f * (500 - g))
      + add (word (row + 1) column) ((500 - f) * g)
      + add (word (row + 1) (column + 1)) (f * g)

  -- a reading that is the mean of that record
  module _ (r : Reading) (mean : Mean file (standing file b z p iy ix row column) r) where
    -- the sum over the words that demand 2 speaks of is that over the bytes
    sums : (add : (word weight : ℕ) → ℕ) → ((word : ℕ) → add word 0 ≡ 0) → (
        let word = word_of file (100 * iy + ix) in
        let w = 16 * row + column + 1 in
        let k = (placed b z p).weights in
        add (word w) k.sw + add (word (w + 1)) k.se + add (word (w + 16)) k.nw + add (word (w + 17)) k.ne ≡ over add
        )
    sums add none =
        let word = stored file (100 * iy + ix) in
        let w = 16 * row + column + 1 in
        let k = (placed b z p).weights in
        let m = mean.corners in
        let old = word_of file (100 * iy + ix) in
        let same : (j v : ℕ) → v ≡ j + 1 → v ≤ 512
        → old v ≡ 256 * get_or file (1024 * (at file (100 * iy + ix) - 1) + 2 * j) 0 + get_or file (1024 * (at file (100 * iy + ix) - 1) + 2 * j + 1) 0 =
        λ j v e h. rw (← mean.named) (in_bytes file (at file (100 * iy + ix)) j v e h) in
        let sw = part add none (old w) (word row column) k.sw λ l. same (16 * row + column) w (omega arith) (m.sw l).1 in
        let se = part add none (old (w + 1)) (word row (column + 1)) k.se λ l. same (16 * row + (column + 1)) (w + 1) (omega arith) (m.se l).1 in
        let nw = part add none (old (w + 16)) (word (row + 1) column) k.nw λ l. same (16 * (row + 1) + column) (w + 16) (omega arith) (m.nw l).1 in
        let ne = part add none (old (w + 17)) (word (row + 1) (column + 1)) k.ne λ l. same (16 * (row + 1) + (column + 1)) (w + 17) (omega arith) (m.ne l).1 in
        (λ t. sw t + se t + nw t + ne t)
        ∙ λ t.
        let q = corner_weights b z p t in
        add (word row column) q.sw
        + add (word row (column + 1)) q.se
        + add (word (row + 1) column) q.nw
        + add (word (row + 1) (column + 1)) q.ne

    -- "The exact height is the sum of weight x elevation", elevation the word mod 8192
    pub mean_height : r.height ≡ over (λ word weight. weight * (word % 8192))
    mean_height = mean.height ∙ sums (λ word weight. weight * (word % 8192)) (λ word. zero-mul _)

    -- "The surface code is the one with the greatest sum of weights, ties to the smaller code", code the word / 8192
    pub mean_code : Greatest (λ code. over (λ word weight. cond (eqb (word / 8192) code) weight 0)) 7 r.code
    mean_code = greatest_by (λ code l. sums (λ word weight. cond (eqb (word / 8192) code) weight 0) (λ word. no_weight (eqb (word / 8192) code))) mean.code

  -- a corner of this weight, in this row and column, weighs in and has no height
  abbrev LacksAt : (weight row column : ℕ) → Type 0
  LacksAt weight i j = (0 < weight) × (stored file (100 * iy + ix) i j % 8192 ≡ 8191)

  -- some corner does
  abbrev pub OneLacks : Type 0
  OneLacks =
      let f : ℕ = fx b z p in
      let g : ℕ = fy b z p in
      (LacksAt ((500 - f) * (500 - g)) row column ⊎ LacksAt (f * (500 - g)) row (column + 1))
      ⊎ (LacksAt ((500 - f) * g) (row + 1) column ⊎ LacksAt (f * g) (row + 1) (column + 1))

  -- "6 is judged on the record taken": a corner that weighs in has no height there
  module _ (on : OnGround b z p) (from : taken file (placed b z p) ≡ given (standing file b z p iy ix row column)) where
    lacks_is : (any_lacks_height (corners_of file (standing file b z p iy ix row column)) ≡ true) ↔ OneLacks
    unfolding place_of place_at weights_of any_lacks_height corners_at
    lacks_is =
        let t = standing file b z p iy ix row column in
        let within = words_within (taken_holds file (ground_of b z) p ((on_ground_lem b z p).1 on) t from) in
        let lacks = lacks_in_bytes file (at file (100 * iy + ix)) in
        let w = 16 * row + column + 1 in
        either _ _
        (either _ _ (lacks w (16 * row + column) _ (omega arith) within.sw.1) (lacks (w + 1) (16 * row + (column + 1)) _ (omega arith) within.se.1))
        (either _ _
        (lacks (w + 16) (16 * (row + 1) + column) _ (omega arith) within.nw.1)
        (lacks (w + 17) (16 * (row + 1) + (column + 1)) _ (omega arith) within.ne.1))

    pub some_lacks_means : SomeLacks file (placed b z p) ↔ OneLacks
    some_lacks_means =
        let law = some_lacks file (placed b z p) _ from in
        ((λ l. lacks_is.0 (law.1 l)), λ o. law.0 (lacks_is.1 o))

-- A point of the file's zone and on its ground, in a file that passes the check, that is read from the record of rectangle 100 iy + ix, in this row and column:
module _ (file after : List ℕ) (b z : ℕ) (c : CheckAnswer) (checks : Checks file after b z c) (passes : c.refusal ≡ 0)
    (p : Point) (on : OnGround b z p) (r : ReadAnswer) (reads : Reads file after b z p r)
    (iy ix row column : ℕ) (from : taken file (placed b z p) ≡ given (standing file b z p iy ix row column)) where
  module _ (is : r.refusal ≡ 0) where
    -- demand 2, of the record that it is read from
    is_mean : Mean file (standing file b z p iy ix row column) (record { height = r.height; code = r.code })
    is_mean =
        let m = reading_is_mean file after b z c checks passes p on r reads is in
        let i : m.source ≡ standing file b z p iy ix row column = cc (m.taken, from) in
        rw i at m.mean

    pub height_in_bytes : r.height ≡ over file b z p iy ix row column (λ word weight. weight * (word % 8192))
    height_in_bytes = mean_height file b z p iy ix row column _ is_mean

    pub code_in_bytes : Greatest (λ code. over file b z p iy ix row column (λ word weight. cond (eqb (word / 8192) code) weight 0)) 7 r.code
    code_in_bytes = mean_code file b z p iy ix row column _ is_mean

  -- it is refused with 6 exactly if a corner that weighs in has no height there
  pub six_exactly : (r.refusal ≡ 6) ↔ OneLacks file b z p iy ix row column
  six_exactly =
      let t = standing file b z p iy ix row column in
      let same : r.refusal ≡ refusal_number (read_taken file t) =
      refusal_is file after b z c checks passes p on r reads ∙ ap refusal_number (ap (λ (o : Outcome Taken). o and_then read_taken file) from) in
      let lacks = lacks_is file b z p iy ix row column on from in
      let law = (six_only file t).six in
      ((λ e. lacks.0 (law.0 (sym same ∙ e))), λ x. same ∙ law.1 (lacks.1 x))
