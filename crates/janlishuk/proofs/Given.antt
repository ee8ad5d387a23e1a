-- What an answer that is given holds, in document 01's letters and in the caller's own fields, of the calls that the demands do not spell out: M, the name, the
-- base, the record, the engine's point and its rows. From the laws of the crates and of the order of checks. Assumes nothing.
use mathlib.Core.Path.{◌≡◌, refl, sym, ◌∙◌, ap}
use mathlib.Core.Logic.{◌⊎◌, ⊎_elim}
use mathlib.Core.Bool.{true, not, ◌||◌}
use mathlib.Core.List.{List, [], ◌∷◌}
use Prim.Native.Nat.{ℕ, ◌+◌, ◌*◌, ◌/◌, ◌%◌, ◌≤◌, ◌<◌}
use lib.Dec.{eqb}
use lib.ListN.{get_or}
use lib.IntN.{pos}
use lib.Ieee.{Float, binary64, of_int, div}
use borrow.Author.Tests.{ne_eqb}
use denote.Ref.{Bor}
use Rattle.ground.specs.Outcome.{Outcome, given, refused}
use Rattle.ground.specs.Measure.{metres, in_units}
use Rattle.ground.specs.Boundary.{named, y_b}
use Rattle.ground.specs.Name.{name_of}
use Rattle.ground.specs.Ground.{ground_of}
use Rattle.ground.specs.declared.point.Point.{Point}
use Rattle.ground.specs.declared.name.NameAnswer.{NameAnswer}
use Rattle.ground.specs.declared.table.BaseAnswer.{BaseAnswer}
use Rattle.ground.proofs.Laws.Outcome.{past, step}
use Rattle.ground.proofs.Laws.Boundary.{base_spans}
use Rattle.index.specs.Bytes.{nth}
use Rattle.index.proofs.Laws.Bytes.{record_byte}
use Rattle.terrain.specs.Check.{checked}
use Rattle.terrain.specs.Record.{record_in, record_for}
use Rattle.terrain.specs.declared.check.CheckAnswer.{CheckAnswer}
use Rattle.terrain.specs.declared.record.Taken.{Taken}
use Rattle.terrain.proofs.Laws.Checked.{checked_is}
use Rattle.terrain.proofs.Laws.Taken.{taken_holds, record_is}
use Rattle.terrain.proofs.Laws.Means.{record_given}
use Rattle.reading.specs.Reading.{reading}
use Rattle.reading.specs.Engine.{metres_of}
use Rattle.reading.specs.declared.point.ReadAnswer.{ReadAnswer}
use Rattle.reading.specs.declared.point.Reading.{Reading}
use Rattle.std.specs.Prelude.{Result, Ok}
use Rattle.ground.specs.declared.refusal.Refusal.{Refusal}
use Rattle.reading.specs.declared.engine.EnginePoint.{EnginePoint}
use Rattle.reading.specs.declared.engine.EnginePoint.TheVariants as point
use Rattle.reading.proofs.Laws.Means.{engine_once}
use Rattle.profile.specs.Profile.{profile_answer}
use Rattle.profile.specs.Row.{row_answer}
use Rattle.profile.specs.declared.ProfileAnswer.{ProfileAnswer}
use Rattle.profile.specs.declared.row.RowAnswer.{RowAnswer}
use Rattle.profile.proofs.Laws.Link.{profile_at}
use Rattle.profile.proofs.Laws.Row.{row_given}
use Rattle.janlishuk.specs.Promise.{Checks, Names, FindsBase, Reads, HandsBack, Tells, Shows, Profiles, GivesRow}
use Rattle.janlishuk.specs.Demand.{IsRecord}
use Rattle.janlishuk.specs.declared.point.EngineAnswer.{EngineAnswer}
use Rattle.janlishuk.proofs.Laws.Line.{was_given}
use Rattle.janlishuk.proofs.Laws.Order.{taken_at, file_order, name_order, base_order, reading_order, profile_order}

-- a whole number as a double
abbrev double : ℕ → Float
double m = of_int binary64 (pos m)

-- an exact height in metres: divided once by 250,000
abbrev in_metres : ℕ → Float
in_metres height = div binary64 (double height) (double 250000)

-- the base is the b, of 0, 4, .. 80, with yB(b) <= y < yB(b+4)
pub base_given : (northing : ℕ) (r : BaseAnswer) → FindsBase northing r → r.refusal ≡ 0
    → (r.base ≡ 4 * (r.base / 4)) × (r.base ≤ 80) × ((y_b r.base).0 ≤ northing / 500) × (northing / 500 < (y_b (r.base + 4)).0)
base_given northing r h e =
    let t = was_given (base_order northing) (rw h at e) in
    rw (h, t.1) (base_spans t.0 (in_units (metres northing)) t.1)

module _ (file after : List ℕ) (b z : ℕ) where
  -- a check that passes answers M, which position 3072 holds, high byte first
  pub check_given : (r : CheckAnswer) → Checks file after b z r → r.refusal ≡ 0 → r.highest ≡ 256 * get_or file 6142 0 + get_or file 6143 0
  unfolding nth
  check_given r h e =
      let t = was_given (file_order file b z) (rw h.0 at e) in
      rw (h.0, t.1) (checked_is file b z t.0 t.1).highest

  -- N, the letter, which runs A for 0 to U for 80, the zone as two digits
  pub name_given : (r : NameAnswer) → Names b z r → r.refusal ≡ 0 → r.name ≡ (78 ∷ (65 + b / 4) ∷ (48 + z / 10) ∷ (48 + z % 10) ∷ [])
  name_given r h e =
      let t = was_given (name_order b z) (rw h at e) in
      let v = past (not (named b z)) 2 (given (name_of b z)) t.0 t.1 in
      let i : name_of b z ≡ t.0 = cc v.1 in
      rw (h, t.1) (sym i)

  -- A point that is read answers for the engine as water where its code is 3 or 6, and else as land, with its code and its metres:
  module _ (p : Point) (s : ReadAnswer) (reads : Reads file after b z p s) (is : s.refusal ≡ 0) where
    read : (r : Reading) × (reading file b z p ≡ given r)
    read = was_given (reading_order file b z p) (rw reads.0 at is)

    -- the test for water
    water : (k : ℕ) → (k ≡ 3) ⊎ (k ≡ 6) → (eqb k 3 || eqb k 6) ≡ true
    water k = ⊎_elim (λ e. simp e) (λ e. simp e)

    -- water, as a struct
    pub water_struct : (s.code ≡ 3) ⊎ (s.code ≡ 6) → (r : EngineAnswer) → Shows file after b z p r
        → r ≡ record { refusal = 0; place = 0; kind = 2; code = s.code; metres = in_metres s.height }
    unfolding metres_of
    water_struct c r h = let d = rw (reads.0, read.1) at c in rw (h.0, reads.0, read.1, water _ d)

    -- land, as a struct
    pub land_struct : (s.code ≡ 3 → ⊥) → (s.code ≡ 6 → ⊥) → (r : EngineAnswer) → Shows file after b z p r
        → r ≡ record { refusal = 0; place = 0; kind = 1; code = s.code; metres = in_metres s.height }
    unfolding metres_of
    land_struct c d r h =
        let c = rw (reads.0, read.1) at c in
        let d = rw (reads.0, read.1) at d in
        rw (h.0, reads.0, read.1, ne_eqb read.0.code 3 c, ne_eqb read.0.code 6 d)

    -- water, as an enum
    pub water_enum : (s.code ≡ 3) ⊎ (s.code ≡ 6) → (r : Result EnginePoint Refusal) → Tells file after b z p r → r ≡ Ok (point.Water (in_metres s.height) s.code)
    unfolding metres_of
    water_enum c r h =
        let d = rw (reads.0, read.1) at c in
        engine_once r (Ok (point.Water (in_metres s.height) s.code)) (rw (h.0, reads.0, read.1, water _ d))

    -- land, as an enum
    pub land_enum : (s.code ≡ 3 → ⊥) → (s.code ≡ 6 → ⊥) → (r : Result EnginePoint Refusal) → Tells file after b z p r
        → r ≡ Ok (point.Land (in_metres s.height) s.code)
    unfolding metres_of
    land_enum c d r h =
        let c = rw (reads.0, read.1) at c in
        let d = rw (reads.0, read.1) at d in
        engine_once r (Ok (point.Land (in_metres s.height) s.code)) (rw (h.0, reads.0, read.1, ne_eqb read.0.code 3 c, ne_eqb read.0.code 6 d))

  -- an engine row holds two doubles: the height in metres, and the share of the way, i divided once by N
  pub row_holds : (p q : Point) (pr : ProfileAnswer) → Profiles file after b z p q pr → pr.refusal ≡ 0 → (i : ℕ) → i ≤ pr.n
      → (r : RowAnswer) → GivesRow file after b z p q i r
      → r ≡ record { refusal = 0; place = 0; row = record { height = in_metres (get_or pr.heights i 0); share = div binary64 (double i) (double pr.n) } }
  unfolding metres_of
  row_holds p q pr profiles is i l r h =
      let t = was_given (profile_order file b z p q) (rw profiles.0 at is) in
      let shown = profiles.0 ∙ ap profile_answer t.1 in
      let steps = (profile_at file b z p q t.0 t.1).steps in
      let k = rw (shown, steps) at l in
      rw (shown, steps) (h.0 ∙ ap row_answer (row_given file b z p q t.0 t.1 i k))

-- a record that is handed back is that of the rectangle taken
pub record_is_taken : (f g r : Bor (List ℕ)) (b z : ℕ) (p : Point) → HandsBack f g b z p r → (r.now ≡ [] → ⊥) → IsRecord f r b z p
unfolding record_for
record_is_taken f g r b z p hands some = go (record_for f.now b z p) refl
  where
    go : (o : Outcome Taken) → record_for f.now b z p ≡ o → IsRecord f r b z p
    go (given t) e =
        let c = step (checked f.now b z) (λ u. record_in f.now u p) t e in
        let at = taken_at f.now b z c.value c.gave p t c.then in
        record {
          source = t;
          taken = at.1;
          holds = taken_holds f.now (ground_of b z) p at.0 t at.1;
          named = (record_is (record { base = b; zone = z; gave = c.gave }) p t c.then).entry;
          long = rw (hands.0.bytes, e) (record_given f.now b z p t e);
          byte = λ k h. rw (hands.0.bytes, e) (record_byte f.now t.entry k h);
          block = hands.0.block;
          start = rw (hands.0.start, e);
        }
    go (refused number place) e = absurd (some (rw (hands.0.bytes, e)))
