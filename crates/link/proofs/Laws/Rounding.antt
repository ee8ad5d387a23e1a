-- Rounding only ever makes a path look worse: where the test in millimetres holds, the line between the ends clears the ground and the curve without any
-- rounding. From the laws of quotients rounded up and of the clear test, sample by sample. Assumes nothing.
use mathlib.Core.Path.{◌≡◌}
use mathlib.Core.Bool.{true}
use Prim.Native.Nat.{ℕ, ◌+◌, ◌-◌, ◌*◌, ◌≤◌, ◌<◌}
use native.Mathlib.Nat.{mul-le-mul, mul-le-mul_left, le_refl}
use native.Mathlib.Omega.{arith}
use Rattle.path.specs.Path.{line}
use Rattle.profile.specs.Profile.{Link, sample_of}
use Rattle.link.specs.Clear.{raised, T, G, need, clear, ExactlyClearAt}
use Rattle.masts.proofs.Laws.Rounding.{rounded_up_lem}
use Rattle.masts.proofs.Laws.Clear.{clear_is}

-- the test in millimetres, times 250 c: each of its numbers is rounded to its own side
unrounded : (n m i A B t g c : ℕ) {first last top bulge : ℕ} → n * (t + g) ≤ m * A + i * B
    → 250 * A ≤ first → 250 * B ≤ last → top ≤ 250 * t → bulge ≤ c * g → c * (n * top) + 250 * (n * bulge) ≤ c * (m * first + i * last)
unrounded n m i A B t g c h f l u v =
    omega (
      arith,
      mul-le-mul_left (250 * c) h,
      mul-le-mul_left (c * m) f,
      mul-le-mul_left (c * i) l,
      mul-le-mul_left (c * n) u,
      mul-le-mul_left (250 * n) v,
    )

-- the exact test holds at a sample at which the test in millimetres does
pub exactly_clear_at : (l : Link) (a b i : ℕ) → 1 ≤ l.path.n
    → need l i ≤ line l.path.n (raised (sample_of l.profile 0) a) (raised (sample_of l.profile l.path.n) b) i → ExactlyClearAt l a b i
unfolding need T G
exactly_clear_at l a b i some h =
    let n : ℕ = l.path.n in
    let top = (rounded_up_lem (sample_of l.profile i).height 250 _ (omega arith)).0 (le_refl _) in
    let bulge = (rounded_up_lem (l.path.q * i * (n - i)) (17000 * (n * n)) _ (omega (arith, mul-le-mul some some))).0 (le_refl _) in
    unrounded n (n - i) i _ _ _ _ _ h (omega arith) (omega arith) top bulge

-- the exact test holds at each sample of a clear path
pub exactly_clear : (l : Link) (a b : ℕ) → clear l a b ≡ true → (i : ℕ) → 1 ≤ i → i < l.path.n → ExactlyClearAt l a b i
unfolding clear
exactly_clear l a b t i s h = exactly_clear_at l a b i (omega arith) ((clear_is (need l) l.path.n _ _).0 t i s h)
