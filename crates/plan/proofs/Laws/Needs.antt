-- The needs of the samples, each put in its place once; and that the search by these needs and by the ends without masts goes by the clear test of the
-- link. Assumes nothing.
use mathlib.Core.Path.{◌≡◌, ◌∙◌, subst}
use mathlib.Core.Logic.{⊎_elim}
use mathlib.Core.Bool.{Bool}
use mathlib.Core.List.{List}
use Prim.Native.Nat.{ℕ, ◌+◌, ◌*◌, ◌≤◌, ◌<◌}
use native.Mathlib.Nat.{eq-or-lt_of_le}
use native.Mathlib.Omega.{arith}
use lib.ListN.{length, get_or, set, length-set}
use lib.Seq.{get_or-set_same, get_or-set_other}
use Rattle.ground.specs.Outcome.{Outcome}
use Rattle.reading.specs.declared.point.Reading.{Reading}
use Rattle.profile.specs.Profile.{Link, sample_of}
use Rattle.masts.specs.Clear.{clear_by}
use Rattle.masts.specs.Plan.{Demand3}
use Rattle.masts.specs.Inside.{Sides}
use Rattle.link.specs.Clear.{raised, need, clear}
use Rattle.masts.specs.declared.Masts.{Masts}
use Rattle.profile.specs.Inside.{SoundLink}
use Rattle.plan.specs.Inside.{Needed}
use Rattle.link.proofs.Laws.Bounds.{need_most}
use Rattle.masts.proofs.Laws.Clear.{needs_agree}

-- no need yet
pub none_needed : {needs : ℕ → ℕ} {list : List ℕ} → length list ≡ 201 → Needed needs 1 list
none_needed e = record { first = omega arith; long = e; at = λ i l h. absurd (omega arith) }

-- one need more
pub one_needed : {needs : ℕ → ℕ} {list : List ℕ} (i r : ℕ) → Needed needs i list → i < 201 → r ≡ needs i → Needed needs (i + 1) (set list i r)
one_needed {needs} {list} i r f h e =
    record {
      first = omega arith;
      long = length-set list i r ∙ f.long;
      at = λ k l u. ⊎_elim
          (λ (q : k ≡ i). rw q (get_or-set_same list i r 0 (omega (arith, f.long)) ∙ e))
          (λ (v : k < i). get_or-set_other list i k r 0 (λ q. omega arith) ∙ f.at k l v)
          (eq-or-lt_of_le (omega arith));
    }

-- a mast adds 1000 for each metre to its end
raised_by : (end : Reading) (mast : ℕ) → raised end 0 + 1000 * mast ≡ raised end mast
raised_by end mast = omega arith

module _ (l : Link) (list : List ℕ) (needs : Needed (need l) l.path.n list) where
  -- what the search goes by is within its bounds
  pub sides : SoundLink l → (la lb : ℕ) → la ≤ 100 → lb ≤ 100
      → Sides l.path.n (raised (sample_of l.profile 0) 0 + 1000 * la) (raised (sample_of l.profile l.path.n) 0 + 1000 * lb) list
  sides s la lb ha hb =
      record {
        some = s.path.some;
        most = s.path.most;
        first = omega (arith, s.heights 0);
        last = omega (arith, s.heights l.path.n);
        needs = λ i m u. rw (needs.at i m u) (omega (arith, need_most l i s (omega arith)));
      }

  -- with the ends without masts it says of each pair of masts what the clear test does
  same_at : (a b : ℕ) → clear_by (λ i. get_or list i 0) l.path.n (raised (sample_of l.profile 0) 0 + 1000 * a) (raised (sample_of l.profile l.path.n) 0 + 1000 * b) ≡ clear l a b
  unfolding clear
  same_at a b =
      rw (raised_by (sample_of l.profile 0) a, raised_by (sample_of l.profile l.path.n) b)
      (needs_agree (λ i. get_or list i 0) (need l) l.path.n _ _ needs.at)

  same_test : ◌≡◌ {A = ℕ → ℕ → Bool}
      (λ a b. clear_by (λ i. get_or list i 0) l.path.n (raised (sample_of l.profile 0) 0 + 1000 * a) (raised (sample_of l.profile l.path.n) 0 + 1000 * b))
      (clear l)
  same_test k a b = same_at a b k

  -- what demand 3 allows of the search it allows of the clear test
  pub demand_of_search : (la lb : ℕ) (o : Outcome Masts)
      → Demand3 (λ a b. clear_by (λ i. get_or list i 0) l.path.n (raised (sample_of l.profile 0) 0 + 1000 * a) (raised (sample_of l.profile l.path.n) 0 + 1000 * b)) la lb o
      → Demand3 (clear l) la lb o
  demand_of_search la lb o = subst (λ (clears : ℕ → ℕ → Bool). Demand3 clears la lb o) same_test
