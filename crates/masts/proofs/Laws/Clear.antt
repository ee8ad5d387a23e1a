-- The clear test, sample by sample; and what taller masts do to it: the line between the ends is nowhere lower, so a clear path stays clear.
-- Assumes nothing.
use mathlib.Core.Path.{◌≡◌}
use mathlib.Core.Bool.{true, false}
use mathlib.Core.Logic.{◌↔◌}
use Prim.Native.Nat.{ℕ, ◌-◌, ◌≤◌, ◌<◌}
use native.Mathlib.Nat.{mul-le-mul_left}
use native.Mathlib.Omega.{arith}
use borrow.Author.Tests.{le-leb, lt-leb, leb-true}
use Rattle.ground.specs.Every.{every}
use Rattle.ground.proofs.Laws.Every.{holds, holds_at, fails_at, agree}
use Rattle.path.specs.Path.{line}
use Rattle.masts.specs.Clear.{clear_at, clear_by}

module _ (needs : ℕ → ℕ) (n A B : ℕ) where
  -- a sample at which the line is below the need blocks the path
  pub blocked : (i : ℕ) → 1 ≤ i → i < n → line n A B i < needs i → clear_by needs n A B ≡ false
  unfolding clear_by
  blocked i l h b = fails_at (clear_at needs n A B) 1 n i l h (lt-leb _ _ b)

  -- document 01's own words: for each i from 1 to N-1 the line is not below the need
  pub clear_is : (clear_by needs n A B ≡ true) ↔ ((i : ℕ) → 1 ≤ i → i < n → needs i ≤ line n A B i)
  unfolding clear_by
  clear_is = (
    (λ t i l h. leb-true _ _ (holds_at (clear_at needs n A B) 1 n t i l h)),
    λ f. holds (clear_at needs n A B) 1 n λ i l h. le-leb _ _ (f i l h),
  )

-- with taller masts the samples before any end stay clear
pub taller_to : (needs : ℕ → ℕ) (n A B A' B' : ℕ) → A ≤ A' → B ≤ B' → (end : ℕ)
    → every (clear_at needs n A B) 1 end ≡ true → every (clear_at needs n A' B') 1 end ≡ true
taller_to needs n A B A' B' first second end t = holds (clear_at needs n A' B') 1 end λ i l h.
    let before = leb-true (needs i) (line n A B i) (holds_at (clear_at needs n A B) 1 end t i l h) in
    le-leb (needs i) (line n A' B' i) (omega (arith, mul-le-mul_left (n - i) first, mul-le-mul_left i second))

-- with taller masts a clear path stays clear
pub taller : (needs : ℕ → ℕ) (n A B A' B' : ℕ) → A ≤ A' → B ≤ B' → clear_by needs n A B ≡ true → clear_by needs n A' B' ≡ true
unfolding clear_by
taller needs n A B A' B' first second = taller_to needs n A B A' B' first second n

-- needs that are the same at each sample between the ends are clear with the same masts
pub needs_agree : (f g : ℕ → ℕ) (n A B : ℕ) → ((i : ℕ) → 1 ≤ i → i < n → f i ≡ g i) → clear_by f n A B ≡ clear_by g n A B
unfolding clear_by
needs_agree f g n A B same = agree (clear_at f n A B) (clear_at g n A B) 1 n λ i l h. rw (same i l h)
