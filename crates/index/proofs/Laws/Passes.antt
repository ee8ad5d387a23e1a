-- The tests of the check are document 01's rules: a file keeps the rules of `Passes` exactly if its length is that of whole records and its
-- index passes. From the laws of a test at each number. Assumes nothing.
use Rattle.std.proofs.Common.{◌≡◌, ℕ, ◌*◌, ◌<◌, ◌≤◌, Bool, true, false, not, ◌&&◌, eqb, leb, ◌⊎◌, ◌↔◌, List, refl, inl, inr, ⊎_elim, arith, eq-eqb, ne_eqb, eqb-true, le-leb, leb-true}
use mathlib.Core.Bool.{and-eq-true_iff}
use borrow.Author.Tests.{eqb-false, not-true}
use Rattle.index.specs.Bytes.{records, whole_records}
use Rattle.index.specs.Index.{position, highest, highest_passes, HighestIn, is_record, fresh, entry_passes, entries_pass, rest_empty, index_passes, Passes}
use Rattle.ground.proofs.Laws.Every.{holds, holds_at}
use Rattle.index.proofs.Laws.Bytes.{whole_is, is_whole}

-- a position holds a number from 7 to M that no position before it holds
pub record NewNumber (file : List ℕ) (M n : ℕ) : Type 0 where
  pub least : 7 ≤ position file n
  pub most : position file n ≤ M
  pub new : (m : ℕ) → 1 ≤ m → m < n → position file m ≡ position file n → ⊥

-- what the test of a position means
entry_is : (file : List ℕ) (M n : ℕ) → entry_passes file M n ≡ true → (position file n ≡ 0) ⊎ NewNumber file M n
unfolding entry_passes fresh
entry_is file M n h = go (eqb (position file n) 0) refl
  where
    go : (t : Bool) → eqb (position file n) 0 ≡ t → (position file n ≡ 0) ⊎ NewNumber file M n
    go true e = inl (eqb-true _ _ e)
    go false e =
        let r = position file n in
        let s = (and-eq-true_iff (is_record r M) (fresh file n r)).0 (rw e at h) in
        let b = (and-eq-true_iff (leb 7 r) (leb r M)).0 s.0 in
        inr (record {
          least = leb-true 7 r b.0;
          most = leb-true r M b.1;
          new = λ m l u. eqb-false _ _ (not-true _ (holds_at (λ k. not (eqb (position file k) r)) 1 n s.1 m l u));
        })

-- such a position passes the test
entry_passes_lem : (file : List ℕ) (M n : ℕ) → (position file n ≡ 0) ⊎ NewNumber file M n → entry_passes file M n ≡ true
unfolding entry_passes fresh
entry_passes_lem file M n (inl z) = simp (eq-eqb _ _ z)
entry_passes_lem file M n (inr e) =
    let r = position file n in
    simp (
      ne_eqb r 0 (λ z. omega arith),
      le-leb _ _ e.least,
      le-leb _ _ e.most,
      holds (λ k. not (eqb (position file k) r)) 1 n λ m l u. simp (ne_eqb _ _ (e.new m l u)),
    )

-- the test of M holds exactly if M is in its range
pub highest_is : (file : List ℕ) → (highest_passes file ≡ true) ↔ HighestIn file
unfolding highest_passes
highest_is file = (
  (λ h.
      let t = (and-eq-true_iff (leb 6 (highest file)) (leb (highest file) (records file))).0 h in
      record { least = leb-true _ _ t.0; most = leb-true _ _ t.1 }),
  λ m. simp (le-leb _ _ m.least, le-leb _ _ m.most),
)

-- what the tests of the index mean
pub passing : (file : List ℕ) (rows : ℕ) → whole_records file ≡ true → index_passes file rows ≡ true → Passes file rows
unfolding index_passes entries_pass rest_empty
passing file rows w h =
    let M = highest file in
    let t = (and-eq-true_iff (highest_passes file) (entries_pass file M (100 * rows) && rest_empty file (100 * rows))).0 h in
    let s = (and-eq-true_iff (entries_pass file M (100 * rows)) (rest_empty file (100 * rows))).0 t.1 in
    let m = (highest_is file).0 t.0 in
    let at : (n : ℕ) → 1 ≤ n → n < 100 * rows → (position file n ≡ 0) ⊎ NewNumber file M n =
    λ n a b. entry_is file M n (holds_at (entry_passes file M) 1 (100 * rows) s.0 n a b) in
    record {
      whole = whole_is file w;
      lowest_m = m.least;
      highest_m = m.most;
      entries = λ n a b. ⊎_elim inl (λ e. inr (e.least, e.most)) (at n a b);
      once = λ k n a b u e. ⊎_elim (λ z. z) (λ y. absurd (y.new k a b e)) (at n (omega arith) u);
      rest = λ n a b. eqb-true _ _ (holds_at (λ k. eqb (position file k) 0) (100 * rows) 3072 s.1 n a (omega arith));
    }

-- the tests hold exactly if the rules do
pub passes_is : (file : List ℕ) (rows : ℕ) → ((whole_records file ≡ true) × (index_passes file rows ≡ true)) ↔ Passes file rows
unfolding highest_passes index_passes entries_pass rest_empty
passes_is file rows = (
  (λ h. passing file rows h.0 h.1),
  λ p. (
    is_whole file p.whole,
    simp (
      le-leb _ _ p.lowest_m,
      le-leb _ _ p.highest_m,
      holds (entry_passes file (highest file)) 1 (100 * rows) (λ n a b. entry_passes_lem file (highest file) n (
          ⊎_elim inl (λ r. inr (record {
            least = r.0;
            most = r.1;
            new = λ m l u e. omega (arith, p.once m n l u b e);
          })) (p.entries n a b)
          )),
      holds (λ k. eqb (position file k) 0) (100 * rows) 3072 (λ n a b. eq-eqb _ _ (p.rest n a (omega arith))),
    ),
  ),
)
