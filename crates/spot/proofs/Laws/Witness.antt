-- A spot is read where the check refuses the file, so that it is not the reading under another name: in a file that passes but for one entry, by which
-- rectangle 51 names the record of rectangle 50 too, a point of rectangle 50 is read as in the file without the damage. From the law that a spot looks at
-- nothing else. Assumes nothing.
use mathlib.Core.Path.{◌≡◌, refl, sym, ◌∙◌}
use mathlib.Core.Logic.{⊎_elim}
use mathlib.Core.Bool.{Bool, true, false}
use mathlib.Core.List.{List}
use Prim.Native.Nat.{ℕ, ◌+◌}
use native.Mathlib.Omega.{arith}
use lib.ListN.{length, get_or, set, length-set}
use lib.Seq.{get_or-set_other}
use Rattle.ground.specs.Outcome.{given, refused}
use Rattle.ground.specs.Boundary.{y_b, rows, named}
use Rattle.ground.specs.Ground.{ground_of}
use Rattle.ground.specs.Place.{place_at, place_of}
use Rattle.ground.specs.Seam.{allowed}
use Rattle.index.specs.Bytes.{position_byte, nth, record_start, whole_records}
use Rattle.index.specs.Index.{position, index_passes}
use Rattle.index.proofs.Laws.Bytes.{is_whole}
use Rattle.index.proofs.Laws.Passes.{passing}
use Rattle.terrain.specs.Check.{checked}
use Rattle.terrain.specs.Record.{entry}
use Rattle.terrain.proofs.Laws.Checked.{check_passes}
use Rattle.terrain.proofs.Laws.Witness.{file, some_passes}
use Rattle.reading.specs.declared.point.Reading.{Reading}
use Rattle.reading.proofs.Laws.Witness.{tower, some_read}
use Rattle.spot.specs.Spot.{spot, LooksAt}
use Rattle.spot.proofs.Laws.Spot.{spot_is_reading}
use Rattle.spot.proofs.Laws.Looks.{SameAt, Alike, looks_at_nothing_else}

-- position 51 holds 7 too
unfoldable pub damaged : List ℕ
damaged = set file 101 7

-- every other byte is the same
same_byte : (i : ℕ) → (i ≡ 101 → ⊥) → get_or file i 0 ≡ get_or damaged i 0
unfolding damaged
same_byte i h = sym (get_or-set_other file 101 i 7 0 h)

same_at : (i : ℕ) → (i ≡ 101 → ⊥) → (i + 1 ≡ 101 → ⊥) → SameAt file damaged i
same_at i a b = (same_byte i a, same_byte (i + 1) b)

same_long : length file ≡ length damaged
unfolding damaged
same_long = sym (length-set file 101 7)

-- the one position that is looked at is that of rectangle 50
looked : (n : ℕ) → LooksAt file (allowed (place_of (ground_of 40 17) tower)) n → n ≡ 50
unfolding y_b place_of place_at allowed entry nth file
looked n = ⊎_elim (λ h. h.1) (λ h. absurd (omega (arith, h.0)))

alike : Alike file damaged 40 17 tower
alike =
    record {
      long = same_long;
      top = same_at 6142 (λ e. omega arith) (λ e. omega arith);
      entries = λ n l. rw (looked n l) (same_at 98 (λ e. omega arith) (λ e. omega arith));
      words = λ t e least most.
          let past : (w : ℕ) → SameAt file damaged (record_start t.entry + position_byte w) = λ w. same_at _ (λ e. omega arith) (λ e. omega arith) in
          record { sw = λ l. past _; se = λ l. past _; nw = λ l. past _; ne = λ l. past _ };
    }

-- the number stands twice
twice : (position damaged 50 ≡ 7) × (position damaged 51 ≡ 7)
unfolding nth damaged file
twice = (refl, refl)

-- the check refuses the file with 3
pub check_refuses : checked damaged 40 17 ≡ refused 3 0
unfolding checked named rows y_b
check_refuses =
    go (index_passes damaged 28) refl (is_whole damaged (omega (arith, same_long, some_passes.whole)))
  where
    go : (t : Bool) → index_passes damaged 28 ≡ t → whole_records damaged ≡ true → checked damaged 40 17 ≡ refused 3 0
    go true e w =
        let p = passing damaged 28 w e in
        let z = p.once 50 51 (omega arith) (omega arith) (omega arith) (twice.0 ∙ sym twice.1) in
        absurd (omega (arith, twice.1))
    go false e w = simp (w, e)

-- and the spot is read
pub spot_reads : (r : Reading) × (spot damaged 40 17 tower ≡ given r)
unfolding y_b rows named
spot_reads = (
  some_read.0,
  sym (looks_at_nothing_else file damaged 40 17 tower alike)
      ∙ spot_is_reading file 40 17 _ (check_passes file 40 17 refl some_passes) tower
      ∙ some_read.1,
)
