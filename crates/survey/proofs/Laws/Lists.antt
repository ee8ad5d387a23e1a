-- The lent lists: which points they hold, when they fit together, and what each entry holds after the answers to the first k points were written. From the
-- definition of the lists alone. Assumes nothing.
use mathlib.Core.Path.{◌≡◌, refl, sym, ◌∙◌, ap}
use mathlib.Core.Logic.{◌↔◌, ◌⊎◌, inl, inr, ⊎_elim}
use mathlib.Core.Bool.{Bool, true, false, not, false≢true}
use mathlib.Core.List.{List}
use Prim.Native.Nat.{ℕ, zero, suc, ◌+◌, ◌≤◌, ◌<◌}
use native.Mathlib.Nat.{le_of_suc-le-suc, eq-or-lt_of_le}
use native.Mathlib.Numerals.{add-one}
use native.Mathlib.Omega.{arith}
use lib.Dec.{eqb, ltb}
use lib.ListN.{length, get_or, set, length-set}
use lib.Seq.{get_or-set_same, get_or-set_other}
use borrow.Author.Tests.{ltb-true, ltb-false, lt-ltb, le-ltb, eqb-true, eqb-false, eq-eqb, ne_eqb, not-true, not-false}
use Rattle.ground.specs.Measure.{metres}
use Rattle.ground.proofs.Laws.Test.{either, neither}
use Rattle.reading.specs.declared.point.ReadAnswer.{ReadAnswer}
use Rattle.survey.specs.Survey.{Lists, five_lists, most_points, point_count, point_at, Unfit, unfit, written, with_answers}

-- the most points, in document 02's digits
pub most_points_is : most_points ≡ 256
most_points_is = refl

-- there are as many points as eastings
pub count_is : (l : Lists) → point_count l ≡ length l.eastings
count_is l = refl

-- point i has easting i and northing i, and is of the zone
pub point_is : (z : ℕ) (l : Lists) (i : ℕ)
    → point_at z l i ≡ record { zone = z; easting = metres (get_or l.eastings i 0); northing = metres (get_or l.northings i 0) }
point_is z l i = refl

-- five lists as one value, each under its own name
pub lists_is : (e n h c r : List ℕ) → five_lists e n h c r ≡ record { eastings = e; northings = n; heights = h; codes = c; refusals = r }
lists_is e n h c r = refl

-- the test of the lists is the condition of 10
pub unfit_is : (l : Lists) → (unfit l ≡ true) ↔ Unfit l
unfolding unfit
unfit_is l =
    let differ : (not (eqb (length l.northings) (point_count l)) ≡ true) ↔ (length l.northings ≡ point_count l → ⊥) =
    ((λ e. eqb-false _ _ (not-true _ e)), λ d. ap not (ne_eqb _ _ d)) in
    let over : (a b : ℕ) → (ltb a b ≡ true) ↔ (a < b) = λ a b. (ltb-true a b, lt-ltb a b) in
    either _ _ differ (either _ _ (over _ _) (either _ _ (over _ _) (either _ _ (over _ _) (over _ _))))

-- lists that fit: the two lists of points have one length, of at most 256, and none of the others is shorter
pub record ListsFit (l : Lists) : Type 0 where
  pub same_length : length l.northings ≡ length l.eastings
  pub most : length l.eastings ≤ 256
  pub heights : length l.eastings ≤ length l.heights
  pub codes : length l.eastings ≤ length l.codes
  pub refusals : length l.eastings ≤ length l.refusals

-- lists that pass the test fit
pub fits : (l : Lists) → unfit l ≡ false → ListsFit l
unfolding unfit
fits l e =
    let a = neither _ _ e in
    let b = neither _ _ a.1 in
    let c = neither _ _ b.1 in
    let d = neither _ _ c.1 in
    record {
      same_length = eqb-true _ _ (not-false _ a.0);
      most = ltb-false _ _ b.0;
      heights = ltb-false _ _ c.0;
      codes = ltb-false _ _ d.0;
      refusals = ltb-false _ _ d.1;
    }

-- lists that fit pass the test
pub fit_passes : (l : Lists) → ListsFit l → unfit l ≡ false
unfolding unfit
fit_passes l f =
    simp (eq-eqb _ _ f.same_length, le-ltb _ _ f.most, le-ltb _ _ f.heights, le-ltb _ _ f.codes, le-ltb _ _ f.refusals)

-- lists fit or are found not to
fit_or_not : (l : Lists) → ListsFit l ⊎ (unfit l ≡ true)
fit_or_not l = go (unfit l) refl
  where
    go : (t : Bool) → unfit l ≡ t → ListsFit l ⊎ (unfit l ≡ true)
    go true e = inr e
    go false e = inl (fits l e)

-- 10 does not hold exactly if the lists fit
pub fits_exactly : (l : Lists) → (Unfit l → ⊥) ↔ ListsFit l
fits_exactly l = (
  (λ n. ⊎_elim (λ f. f) (λ e. absurd (n ((unfit_is l).0 e))) (fit_or_not l)),
  λ f u. false≢true (sym (fit_passes l f) ∙ (unfit_is l).1 u),
)

-- lists that do not fit do not pass the test
pub unfit_found : (l : Lists) → (ListsFit l → ⊥) → unfit l ≡ true
unfit_found l n = ⊎_elim (λ f. absurd (n f)) (λ e. e) (fit_or_not l)

-- A list of which the first k entries are written:
module _ (entry : ℕ → ℕ) (list : List ℕ) where
  -- a list with k + 1 entries written is that with k, and one set
  pub one_more : (i : ℕ) → written entry list (i + 1) ≡ set (written entry list i) i (entry i)
  unfolding written
  one_more i = simp add-one

  -- writing entries keeps a list's length
  pub as_long : (k : ℕ) → length (written entry list k) ≡ length list
  unfolding written
  as_long zero = refl
  as_long (suc k) = length-set (written entry list k) k (entry k) ∙ as_long k

  -- an entry after the first k keeps its content; d is what is taken for an entry that is not there
  pub after_last : (k i d : ℕ) → k ≤ i → get_or (written entry list k) i d ≡ get_or list i d
  unfolding written
  after_last zero i d h = refl
  after_last (suc k) i d h = get_or-set_other (written entry list k) k i (entry k) d (λ e. omega arith) ∙ after_last k i d (omega arith)

  -- each of the first k entries holds what was written there
  pub entry_at : (k i d : ℕ) → k ≤ length list → i < k → get_or (written entry list k) i d ≡ entry i
  unfolding written
  entry_at zero i d m h = absurd (omega arith)
  entry_at (suc k) i d m h =
      let at = written entry list k in
      ⊎_elim
      (λ (e : i ≡ k). rw e (get_or-set_same at k (entry k) d (omega (arith, as_long k))))
      (λ (u : i < k). get_or-set_other at k i (entry k) d (λ e. omega arith) ∙ entry_at k i d (omega arith) u)
      (eq-or-lt_of_le (le_of_suc-le-suc h))

-- the lists of m have the points of l, and are as long
pub record AsLong (l m : Lists) : Type 0 where
  pub points_stay : (m.eastings ≡ l.eastings) × (m.northings ≡ l.northings)
  pub heights : length m.heights ≡ length l.heights
  pub codes : length m.codes ≡ length l.codes
  pub refusals : length m.refusals ≡ length l.refusals

-- The lists of l with the answers to the first k points:
module _ (answer : ℕ → ReadAnswer) (l : Lists) (k : ℕ) where
  -- writing answers keeps the points, and the length of every list
  pub all_long : AsLong l (with_answers answer l k)
  all_long =
      record {
        points_stay = (refl, refl);
        heights = as_long (λ i. (answer i).height) l.heights k;
        codes = as_long (λ i. (answer i).code) l.codes k;
        refusals = as_long (λ i. (answer i).refusal) l.refusals k;
      }

  -- the lists with k + 1 answers are those with k, and one entered
  pub one_answer_more : {m : Lists} {r : ReadAnswer} → m ≡ with_answers answer l k → r ≡ answer k
      → five_lists m.eastings m.northings (set m.heights k r.height) (set m.codes k r.code) (set m.refusals k r.refusal)
      ≡ with_answers answer l (k + 1)
  one_answer_more is e = rw (is, e) (simp one_more)
