-- The walk over the index, and what the marks that it leaves mean. From the laws of a test at each number. Assumes nothing.
use Rattle.std.proofs.Common.{◌≡◌, ℕ, ◌+◌, ◌<◌, ◌≤◌, Bool, true, false, not, ◌&&◌, eqb, leb, List, length, get_or, set, replicate, sym, refl, ◌∙◌, ⊎_elim, le_refl, eq-or-lt_of_le, arith, length-set, get_or-set_other, get_or-set_same, below_more, eq-eqb, ne_eqb, eqb-true, le-leb, leb-true}
use mathlib.Core.Bool.{and-true, and-false, and-eq-true_iff}
use lib.ListN.{length-replicate, get_or-replicate}
use borrow.Author.Tests.{eqb-false, not-true, not-false}
use Rattle.ground.proofs.Laws.Every.{next, skip, none, holds, fails_at}
use Rattle.index.specs.Index.{position, is_record, fresh, entry_passes, entries_pass, rest_empty}
use Rattle.index.specs.Inside.{Walked, Skipped, NextEntry}

-- one empty position more
pub skip_one : (file : List ℕ) (from end n m : ℕ) → Skipped file from end n → n < end → position file n ≡ 0 → m ≡ n + 1 → Skipped file from end m
skip_one file from end n m s h z e =
    rw e (record {
      first = omega arith;
      last = omega arith;
      empty = λ k l u. below_more (λ j. from ≤ j → position file j ≡ 0) n (λ j b a. s.empty j a b) (λ a. z) k u l;
    })

-- a mark set at r marks r, and leaves the others
mark : (marks : List Bool) (r s : ℕ) (f : Bool) → r < length marks → get_or marks s false ≡ not f
    → get_or (set marks r true) s false ≡ not (f && not (eqb r s))
mark marks r s f h e = go (eqb r s) refl
  where
    go : (b : Bool) → eqb r s ≡ b → get_or (set marks r true) s false ≡ not (f && not (eqb r s))
    go true q = simp (q, and-false, ← eqb-true r s q, get_or-set_same marks r true false h)
    go false q = simp (q, and-true, get_or-set_other marks r s true false λ z. eqb-false r s q (sym z), e)

module _ {file : List ℕ} {M : ℕ} where
  -- no position yet, and no mark
  pub walk_none : M ≤ 4096 → Walked file M (replicate 4097 false) 1
  unfolding entries_pass fresh
  walk_none h =
      record {
        most = h;
        first = omega arith;
        long = length-replicate 4097 false;
        passed = none (entry_passes file M) 1;
        marked = λ r l u. rw (get_or-replicate 4097 r false false (omega arith), none (λ m. not (eqb (position file m) r)) 1);
      }

  module _ {marks : List Bool} {n : ℕ} (w : Walked file M marks n) where
    -- empty positions more
    pub walk_empty : {end m : ℕ} → Skipped file n end m → Walked file M marks m
    unfolding entries_pass fresh entry_passes
    walk_empty {end} {m} s =
        record {
          most = w.most;
          first = omega (arith, w.first, s.first);
          long = w.long;
          passed = skip _ 1 n m s.first (λ k l u. simp (s.empty k l u)) ∙ w.passed;
          marked = λ r l u.
              rw (skip (λ k. not (eqb (position file k) r)) 1 n m s.first (λ k a b. simp (s.empty k a b, ne_eqb 0 r (omega arith))))
              (w.marked r l u);
        }

    -- one empty position more
    pub walk_zero : position file n ≡ 0 → Walked file M marks (n + 1)
    walk_zero z =
        let none : Skipped file n (n + 1) n = record { first = le_refl n; last = omega arith; empty = λ k l u. absurd (omega arith) } in
        walk_empty (skip_one file n (n + 1) n (n + 1) none (omega arith) z refl)

    -- one position more, with a number from 7 to M that is not marked
    pub walk_one : {r : ℕ} → r ≡ position file n → 7 ≤ r → r ≤ M → get_or marks r false ≡ false → Walked file M (set marks r true) (n + 1)
    unfolding entries_pass fresh entry_passes
    walk_one {r} i l u e =
        let new : fresh file n r ≡ true = not-false _ (sym (w.marked r (omega arith) (omega (arith, w.most))) ∙ e) in
        record {
          most = w.most;
          first = omega arith;
          long = length-set marks r true ∙ w.long;
          passed = rw (next (entry_passes file M) 1 n w.first, w.passed, ← i, ne_eqb r 0 (omega arith), le-leb 7 r l, le-leb r M u) new;
          marked = λ s a b. rw (next (λ k. not (eqb (position file k) s)) 1 n w.first, ← i)
              (mark marks r s (fresh file n s) (omega (arith, w.most, w.long)) (w.marked s a b));
        }

    -- the positions up to any end past one that does not pass do not all pass
    pub entries_fail : (end : ℕ) → n < end → entry_passes file M n ≡ false → entries_pass file M end ≡ false
    unfolding entries_pass
    entries_fail end h e = fails_at (entry_passes file M) 1 end n w.first h e

    -- a position whose number is marked does not pass
    pub marked_fails : {r : ℕ} → r ≡ position file n → 1 ≤ r → r ≤ M → get_or marks r false ≡ true → entry_passes file M n ≡ false
    unfolding entry_passes
    marked_fails {r} i l u e =
        let old : fresh file n r ≡ false = not-true _ (sym (w.marked r l (omega (arith, w.most))) ∙ e) in
        simp (← i, ne_eqb r 0 (omega arith), old, and-false)

-- a position whose number is neither 0 nor from 7 to M does not pass
pub stray_fails : (file : List ℕ) (M n : ℕ) → is_record (position file n) M ≡ false → (position file n ≡ 0 → ⊥) → entry_passes file M n ≡ false
unfolding entry_passes
stray_fails file M n h z = simp (ne_eqb (position file n) 0 z, h)

-- what the test for a number from 7 to M means
pub from_7_to_M : (r M : ℕ) → is_record r M ≡ true → (7 ≤ r) × (r ≤ M)
from_7_to_M r M h = let t = (and-eq-true_iff (leb 7 r) (leb r M)).0 h in (leb-true 7 r t.0, leb-true r M t.1)

-- the positions from this one to 3071 are 0 exactly if the walk from it ends at 3072
pub rest_is : {file : List ℕ} {from r : ℕ} → NextEntry file from 3072 r → eqb r 3072 ≡ rest_empty file from
unfolding rest_empty
rest_is {file} {from} {r} t = ⊎_elim
    (λ (q : r ≡ 3072). eq-eqb r 3072 q ∙ sym (holds _ from 3072 λ k l h. eq-eqb _ 0 (t.skipped.empty k l (omega arith))))
    (λ (h : r < 3072). ne_eqb r 3072 (λ q. omega arith) ∙ sym (fails_at _ from 3072 r t.skipped.first h (ne_eqb _ 0 (t.holds h))))
    (eq-or-lt_of_le t.skipped.last)
