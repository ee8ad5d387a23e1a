-- The search for masts: the least second mast for a first one, sample by sample, and the least sum, first mast by first mast. From the law of quotients
-- rounded up, and from what a taller mast does. Assumes nothing.
use mathlib.Core.Path.{◌≡◌, refl, sym, ◌∙◌}
use Rattle.std.specs.Prelude.{Option, Some, None, MatchOption}
use mathlib.Core.Logic.{◌↔◌, ⊎_elim}
use mathlib.Core.Bool.{Bool, true, ◌&&◌, and-true, and-eq-true_iff, true≢false}
use Prim.Native.Nat.{ℕ, ◌+◌, ◌-◌, ◌*◌, min, ◌≤◌, ◌<◌}
use native.Mathlib.Nat.{mul-add, mul_assoc, mul_left_comm, le_refl, le_of_suc-le-suc, lt_of_not-le, eq-or-lt_of_le}
use native.Mathlib.Decide.{dec_lt}
use native.Mathlib.Omega.{arith}
use borrow.Author.Tests.{le-leb, leb-true}
use Rattle.ground.specs.Every.{every}
use Rattle.ground.proofs.Laws.Every.{next, none, holds, holds_at}
use Rattle.path.specs.Path.{line}
use Rattle.masts.specs.Clear.{rounded_up, clear_at, clear_by}
use Rattle.masts.specs.Plan.{Pair, Demand3, planned_means}
use Rattle.masts.specs.Inside.{BlockedAt, LeastSecond}
use Rattle.masts.specs.declared.Masts.{Masts}
use Rattle.masts.proofs.Laws.Rounding.{rounded_up_lem}
use Rattle.masts.proofs.Laws.Clear.{clear_is, blocked, taller_to, taller}

-- a second mast that is taller by b - m metres lifts the line at sample i by 1000 i (b - m)
lifted : (n A B i m b : ℕ) → m ≤ b → line n A (B + 1000 * b) i ≡ line n A (B + 1000 * m) i + 1000 * i * (b - m)
lifted n A B i m b h =
    let e : B + 1000 * b ≡ B + 1000 * m + 1000 * (b - m) = omega arith in
    rw (e, mul-add i (B + 1000 * m) (1000 * (b - m))) (simp (mul_assoc, mul_left_comm) (omega arith))

-- the samples from 1 to before the end are clear with this second mast
abbrev clear_with : (ℕ → ℕ) → ℕ → ℕ → ℕ → ℕ → ℕ → Bool
clear_with needs n A B end mast = every (clear_at needs n A (B + 1000 * mast)) 1 end

-- the least second mast with which the samples from 1 to before the end are clear
pub record Least (needs : ℕ → ℕ) (n A B end mast : ℕ) : Type 0 where
  pub first : 1 ≤ end
  pub clear : clear_with needs n A B end mast ≡ true
  pub least : (b : ℕ) → clear_with needs n A B end b ≡ true → mast ≤ b

module _ {needs : ℕ → ℕ} {n A B : ℕ} where
  -- no sample yet, and no mast
  pub none_tried : Least needs n A B 1 0
  none_tried =
      record {
        first = omega arith;
        clear = none (clear_at needs n A (B + 1000 * 0)) 1;
        least = λ b t. omega arith;
      }

  -- m is the least that clears sample i too
  onward : {i mast : ℕ} → Least needs n A B i mast → (m : ℕ) → mast ≤ m → needs i ≤ line n A (B + 1000 * m) i
      → ((b : ℕ) → mast ≤ b → needs i ≤ line n A (B + 1000 * b) i → m ≤ b) → Least needs n A B (i + 1) m
  onward {i} {mast} w m up h none-lower =
      let one_more : (b : ℕ) → clear_with needs n A B (i + 1) b ≡ (clear_with needs n A B i b && clear_at needs n A (B + 1000 * b) i) =
      λ b. next (clear_at needs n A (B + 1000 * b)) 1 i w.first in
      record {
        first = omega arith;
        clear = rw (one_more m, le-leb (needs i) (line n A (B + 1000 * m) i) h, and-true)
            (taller_to needs n A (B + 1000 * mast) A (B + 1000 * m) (le_refl A) (omega arith) i w.clear);
        least = λ b t.
            let both = (and-eq-true_iff (clear_with needs n A B i b) _).0 (sym (one_more b) ∙ t) in
            none-lower b (w.least b both.0) (leb-true _ _ both.1);
      }

  -- the sample is clear with the mast so far
  pub stays : {i mast : ℕ} → Least needs n A B i mast → needs i ≤ line n A (B + 1000 * mast) i → Least needs n A B (i + 1) mast
  stays {mast = mast} w h = onward w mast (le_refl mast) h λ b l t. l

  -- the sample is clear with the d metres more that lift the line, l, to its need
  pub rises : {i mast l d : ℕ} → Least needs n A B i mast → l ≡ line n A (B + 1000 * mast) i
      → d ≡ rounded_up (needs i - l) (1000 * i) → Least needs n A B (i + 1) (mast + d)
  rises {i} {mast} {l} {d} w at e =
      let enough : (k : ℕ) → (rounded_up (needs i - l) (1000 * i) ≤ k) ↔ (needs i - l ≤ 1000 * i * k) =
      λ k. rounded_up_lem (needs i - l) (1000 * i) k (omega (arith, w.first)) in
      let lifts : (b : ℕ) → mast ≤ b → line n A (B + 1000 * b) i ≡ l + 1000 * i * (b - mast) =
      λ b u. omega (arith, lifted n A B i mast b u) in
      onward w (mast + d) (omega arith) (omega (arith, lifts (mast + d) (omega arith), (enough (mast + d - mast)).0 (omega arith)))
      λ b u t. omega (arith, (enough (b - mast)).1 (omega (arith, lifts b u)))

  -- no mast that clears the path is lower than the mast so far
  pub least_within : {i mast : ℕ} → Least needs n A B i mast → i ≤ n → (b : ℕ) → clear_by needs n A (B + 1000 * b) ≡ true → mast ≤ b
  unfolding clear_by
  least_within {i} w l b t = w.least b (holds _ 1 i λ j v s. holds_at _ 1 n t j v (omega arith))

  -- at the end the mast is the least that clears the path
  pub least_at_end : {i mast : ℕ} → Least needs n A B i mast → i ≡ n → LeastSecond (λ b. clear_by needs n A (B + 1000 * b)) mast
  unfolding clear_by
  least_at_end w e = record { clear = rw e at w.clear; least = λ b t. w.least b (rw e t) }

-- the first sample at which the line is below the need, or none, and then the path is clear
pub first_blocked : (needs : ℕ → ℕ) (n A B : ℕ) (r : Option ℕ)
    → MatchOption r ((k : ℕ) → 1 ≤ k → k < n → needs k ≤ line n A B k)
    (λ i. (1 ≤ i) × (i < n) × (line n A B i < needs i) × ((k : ℕ) → 1 ≤ k → k < i → needs k ≤ line n A B k))
    → MatchOption r (clear_by needs n A B ≡ true) (BlockedAt needs n A B)
first_blocked needs n A B None all = (clear_is needs n A B).1 all
first_blocked needs n A B (Some i) first = record { between = (first.0, first.1); blocked = first.2 }

-- What is held before all first masts are tried: no pair yet, and one more than the limits' sum; or a clear pair with its sum, the pair with the
-- lowest first mast of those with this sum.
abbrev pub Held : (ℕ → ℕ → Bool) → (la lb sum : ℕ) → Option Masts → Type 0
Held clears la lb sum None = sum ≡ la + lb + 1
Held clears la lb sum (Some m) =
    ((sum ≡ m.first + m.second) × Pair clears la lb m.first m.second)
    × ((x y : ℕ) → Pair clears la lb x y → x < m.first → sum < x + y)

-- The first masts below a have been tried: no clear pair with one of them has a smaller sum than the one that is held.
pub record Tried (clears : ℕ → ℕ → Bool) (la lb sum : ℕ) (best : Option Masts) (a : ℕ) : Type 0 where
  pub most : sum ≤ la + lb + 1
  pub held : Held clears la lb sum best
  pub least : (x y : ℕ) → Pair clears la lb x y → x < a → sum ≤ x + y

-- where a path is blocked with the second mast k, no lower one clears it
pub none_clears : {needs : ℕ → ℕ} {n A r : ℕ} (B k : ℕ) → BlockedAt needs n A (B + 1000 * k) r → (y : ℕ) → y ≤ k
    → clear_by needs n A (B + 1000 * y) ≡ true → ⊥
none_clears {needs} {n} {A} {r} B k b y l t =
    let up = taller needs n A (B + 1000 * y) A (B + 1000 * k) (le_refl A) (omega arith) t in
    true≢false (sym up ∙ blocked needs n A (B + 1000 * k) r b.between.0 b.between.1 b.blocked)

module _ {clears : ℕ → ℕ → Bool} {la lb : ℕ} where
  -- no first mast tried yet
  pub none_found : Tried clears la lb (la + lb + 1) None 0
  none_found = record { most = omega arith; held = refl; least = λ x y p h. absurd (omega arith) }

  -- no clear pair has a smaller sum with one first mast more
  least_with : {sum a : ℕ} {best : Option Masts} → Tried clears la lb sum best a → (s : ℕ) → s ≤ sum → ((y : ℕ) → Pair clears la lb a y → s ≤ a + y)
      → (x y : ℕ) → Pair clears la lb x y → x < a + 1 → s ≤ x + y
  least_with {a = a} t s h at x y p l = ⊎_elim
      (λ (q : x ≡ a). rw q (at y (rw q at p)))
      (λ (u : x < a). omega (arith, t.least x y p u))
      (eq-or-lt_of_le (omega arith))

  -- the first mast a makes a clear pair with a smaller sum
  pub found : {sum a k b : ℕ} {best : Option Masts} → Tried clears la lb sum best a → a ≤ la → a < sum → k ≡ min lb (sum - 1 - a)
      → LeastSecond (clears a) b → clears a k ≡ true → Tried clears la lb (a + b) (Some (record { first = a; second = b })) (a + 1)
  found {a = a} {k = k} {b = b} t l u e s c =
      let h : b ≤ k = s.least k c in
      record {
        most = omega arith;
        held = ((refl, record { first = l; second = omega arith; clear = s.clear }), λ x y p v. omega (arith, t.least x y p v));
        least = least_with t (a + b) (omega arith) λ y p. omega (arith, s.least y p.clear);
      }

  -- the first mast a makes no clear pair with a smaller sum
  pub passed : {sum a k : ℕ} {best : Option Masts} → Tried clears la lb sum best a → k ≡ min lb (sum - 1 - a)
      → ((y : ℕ) → y ≤ k → clears a y ≡ true → ⊥) → Tried clears la lb sum best (a + 1)
  passed {sum} {a} {k} t e none =
      record {
        most = t.most;
        held = t.held;
        least = least_with t sum (le_refl sum) λ y p. le_of_suc-le-suc (lt_of_not-le λ (h : a + y < sum). none y (omega (arith, p.second)) p.clear);
      }

  -- every first mast within the limit is tried, or would by itself come to the sum
  least_of_all : {sum a : ℕ} {best : Option Masts} → Tried clears la lb sum best a → (a ≤ la → sum ≤ a) → (x y : ℕ) → Pair clears la lb x y → sum ≤ x + y
  least_of_all {sum} {a} t out x y p = go (dec_lt x a)
    where
      go : Dec (x < a) → sum ≤ x + y
      go (yes l) = t.least x y p l
      go (no h) = omega (arith, out (omega (arith, p.first)))

  -- what is held at the end is what demand 3 allows: the best pair, or that there is none
  pub planned : {sum a : ℕ} {best : Option Masts} → Tried clears la lb sum best a → (a ≤ la → sum ≤ a) → Demand3 clears la lb (planned_means best)
  planned {best = None} t out = ((refl, refl), λ x y p. omega (arith, p.first, p.second, t.held, least_of_all t out x y p))
  planned {best = Some m} t out =
      record {
        pair = t.held.0.1;
        least = λ x y p. omega (arith, t.held.0.0, least_of_all t out x y p);
        lower = λ x y p e. lower_than x y p e (dec_lt x m.first);
      }
    where
      lower_than : (x y : ℕ) → Pair clears la lb x y → x + y ≡ m.first + m.second → Dec (x < m.first) → m.first ≤ x
      lower_than x y p e (yes l) = absurd (omega (arith, t.held.0.0, t.held.1 x y p l))
      lower_than x y p e (no l) = omega arith
