-- What marking a number tells: one from 7 to M that had no mark passes, and so do four one after the other. From the laws of the walk over the index.
-- Assumes nothing.
use Rattle.std.proofs.Common.{◌≡◌, ℕ, ◌+◌, ◌≤◌, Bool, true, false, not, ◌&&◌, eqb, List, get_or, set, sym, refl, ◌∙◌, arith, eqb-true}
use mathlib.Core.Bool.{and-eq-true_iff, false≢true}
use borrow.Author.Tests.{eqb-false, not-true, not-false}
use Rattle.index.specs.Index.{is_record}
use Rattle.index.specs.Inside.{FourAre, Marking, RecordAt, FourRecords, NumberAt, FourAt}
use Rattle.index.specs.declared.marks.Four.{Four}
use Rattle.index.proofs.Laws.Walk.{walk_zero, walk_one, entries_fail, marked_fails, stray_fails, from_7_to_M}

-- four numbers from 7 to M that stand in four positions
pub four_records : {f : Four} {file : List ℕ} (M : ℕ) {n : ℕ} → FourAt file n f → {r : Bool} → FourAre f M r → r ≡ true → FourRecords f file M n
four_records M at is e =
    let t = (and-eq-true_iff _ _).0 (sym is ∙ e) in
    let s = (and-eq-true_iff _ _).0 t.0 in
    let r = (and-eq-true_iff _ _).0 s.0 in
    ((at.first, r.0), (at.second, r.1), (at.third, s.1), (at.fourth, t.1))

-- the marks reach as far as a number from 7 to M
pub record_most : (number M : ℕ) → M ≤ 4096 → is_record number M ≡ true → number ≤ 4096
record_most number M h e = omega (arith, from_7_to_M number M e)

-- a number from 7 to M is marked
pub marks_one : (number : ℕ) (marks : List Bool) → Marking 1 (RecordAt number) marks (set marks number true) (not (get_or marks number false))
marks_one number marks =
    record {
      goes = λ w at t. let so = from_7_to_M _ _ at.1 in walk_one w at.0 so.0 so.1 (not-true _ t);
      stops = λ w at t end h.
          let so = from_7_to_M _ _ at.1 in
          entries_fail w end (omega arith) (marked_fails w at.0 (omega (arith, so)) so.1 (not-false _ t));
    }

-- of any number, one from 7 to M is marked
pub marks_number : {number highest : ℕ} {before after : List Bool} {r : Bool} → is_record number highest ≡ true → Marking 1 (RecordAt number) before after r
    → Marking 1 (NumberAt number highest) before after r
marks_number h m =
    record {
      goes = λ w at t. m.goes w (at.0, rw at.1 h) t;
      stops = λ w at t. m.stops w (at.0, rw at.1 h) t;
    }

-- of any number, one that is not from 7 to M passes exactly if it is 0
pub marks_none : {number highest : ℕ} (marks : List Bool) → is_record number highest ≡ false → Marking 1 (NumberAt number highest) marks marks (eqb number 0)
marks_none {number} {highest} marks h =
    record {
      goes = λ w at t. walk_zero w (sym at.0 ∙ eqb-true number 0 t);
      stops = λ w at t end l. entries_fail w end (omega arith) (stray_fails _ _ _ (rw (at.0, ← at.1) at h) λ z. eqb-false number 0 t (at.0 ∙ z));
    }

-- nothing is marked yet
pub marks_nothing : {Of : List ℕ → ℕ → ℕ → Type 0} (marks : List Bool) → Marking 0 Of marks marks true
marks_nothing marks =
    record {
      goes = λ {file} {M} {n} w of t. let e : n + 0 ≡ n = omega arith in rw e w;
      stops = λ w of t. absurd (false≢true (sym t));
    }

-- one number more is marked, that of the next position
pub marks_more : {Of : List ℕ → ℕ → ℕ → Type 0} {k number : ℕ} {before now after : List Bool} {r s : Bool} → Marking k Of before now r
    → ((file : List ℕ) (M n : ℕ) → Of file M n → RecordAt number file M (n + k)) → Marking 1 (RecordAt number) now after s
    → Marking (k + 1) Of before after (r && s)
marks_more {k = k} {r = true} m at one =
    record {
      goes = λ {file} {M} {n} w of t.
          let e : n + (k + 1) ≡ n + k + 1 = omega arith in
          rw e (one.goes (m.goes w of refl) (at file M n of) t);
      stops = λ {file} {M} {n} w of t end h. one.stops (m.goes w of refl) (at file M n of) t end (omega arith);
    }
marks_more {r = false} m at one =
    record {
      goes = λ w of t. absurd (false≢true t);
      stops = λ w of t end h. m.stops w of refl end (omega arith);
    }
