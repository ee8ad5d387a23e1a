-- What one corner weighs and says, and when it has no height; and that the exact height of four corners lies between the elevations of those that
-- weigh in. From the definitions alone. Assumes nothing.
use mathlib.Core.Path.{◌≡◌, refl, sym, ap}
use mathlib.Core.Logic.{◌↔◌}
use mathlib.Core.Bool.{true, false, ◌||◌}
use mathlib.Core.List.{List}
use Prim.Native.Nat.{ℕ, zero, suc, ◌+◌, ◌*◌, ◌≤◌, ◌<◌}
use native.Mathlib.Nat.{zero-mul, add-mul, mul-le-mul_left}
use native.Mathlib.Omega.{arith}
use lib.Dec.{eqb-suc-zero}
use borrow.Author.Tests.{eqb-true, eqb-false, eq-eqb, ne_eqb}
use Rattle.ground.proofs.Laws.Test.{neither}
use Rattle.index.specs.Bytes.{nth}
use Rattle.terrain.specs.Word.{elevation_of}
use Rattle.reading.specs.Corner.{Corner, Corners, corner, lacks_height, any_lacks_height, exact_height}
use Rattle.reading.specs.Inside.{EachCorner, said}

module _ (bytes : List ℕ) (w : ℕ) where
  -- the corner at word w has the weight that it was given
  pub corner_weight : (weight : ℕ) → (corner bytes w weight).weight ≡ weight
  unfolding corner
  corner_weight zero = refl
  corner_weight (suc n) = rw eqb-suc-zero

  -- where it weighs in, it says what its word does
  pub corner_says : (weight : ℕ) → 0 < weight → corner bytes w weight ≡ said (nth bytes w) weight
  unfolding corner
  corner_says weight h = rw (ne_eqb weight 0 (λ e. omega arith))

  -- its part in the exact height is its weight times what its word says
  pub corner_part : (weight : ℕ) → (corner bytes w weight).weight * (corner bytes w weight).elevation ≡ weight * elevation_of (nth bytes w)
  unfolding corner
  corner_part zero = sym (zero-mul _)
  corner_part (suc n) = rw eqb-suc-zero

  -- it has no height exactly if it weighs in and its word says so
  pub corner_lacks : (weight : ℕ) → (lacks_height (corner bytes w weight) ≡ true) ↔ ((0 < weight) × (elevation_of (nth bytes w) ≡ 8191))
  unfolding corner
  corner_lacks zero = (λ e. absurd (eqb-false 0 8191 refl (eqb-true 0 8191 e)), λ h. absurd (omega arith))
  corner_lacks (suc n) = rw eqb-suc-zero ((λ e. (omega arith, eqb-true _ _ e)), λ h. eq-eqb _ _ h.1)

-- four corners are told by each of them
pub by_each : {a b c d : Corner} {e f g h : Corner} → a ≡ e → b ≡ f → c ≡ g → d ≡ h
    → ◌≡◌ {A = Corners} (record { sw = a; se = b; nw = c; ne = d }) (record { sw = e; se = f; nw = g; ne = h })
by_each p q r s = rw (p, q, r, s)

-- a corner does not say 8191
abbrev pub SaysHeight : Corner → Type 0
SaysHeight k = k.elevation ≡ 8191 → ⊥

-- no corner lacks a height exactly if none says 8191
pub lacks_none : (c : Corners) → (any_lacks_height c ≡ false) ↔ EachCorner SaysHeight c
unfolding any_lacks_height
lacks_none c = (
  (λ e.
      let t = neither (lacks_height c.sw || lacks_height c.se) (lacks_height c.nw || lacks_height c.ne) e in
      let s = neither (lacks_height c.sw) (lacks_height c.se) t.0 in
      let n = neither (lacks_height c.nw) (lacks_height c.ne) t.1 in
      record { sw = eqb-false _ _ s.0; se = eqb-false _ _ s.1; nw = eqb-false _ _ n.0; ne = eqb-false _ _ n.1 }),
  λ h. simp (ne_eqb _ _ h.sw, ne_eqb _ _ h.se, ne_eqb _ _ h.nw, ne_eqb _ _ h.ne),
)

-- a corner, if it weighs in, lies between these elevations
abbrev pub SaysBetween : ℕ → ℕ → Corner → Type 0
SaysBetween lo hi k = 0 < k.weight → (lo ≤ k.elevation) × (k.elevation ≤ hi)

-- its part in the exact height then lies between its weight times these
part_within : {lo hi e : ℕ} (weight : ℕ) → (0 < weight → (lo ≤ e) × (e ≤ hi)) → (weight * lo ≤ weight * e) × (weight * e ≤ weight * hi)
part_within zero h = omega arith
part_within (suc n) h =
    let b = h (omega arith) in
    (mul-le-mul_left (suc n) b.0, mul-le-mul_left (suc n) b.1)

-- a corner lies between elevations if its word does
pub corner_between : (bytes : List ℕ) (w lo hi weight : ℕ) → (0 < weight → (lo ≤ elevation_of (nth bytes w)) × (elevation_of (nth bytes w) ≤ hi))
    → SaysBetween lo hi (corner bytes w weight)
unfolding corner
corner_between bytes w lo hi zero h = λ l. omega arith
corner_between bytes w lo hi (suc n) h = rw eqb-suc-zero h

-- the exact height lies between 250,000 times these elevations
pub record HeightWithin (lo hi : ℕ) (c : Corners) : Type 0 where
  pub least : 250000 * lo ≤ exact_height c
  pub most : exact_height c ≤ 250000 * hi

-- what the four corners weigh together
abbrev pub all_weigh : Corners → ℕ
all_weigh c = c.sw.weight + c.se.weight + (c.nw.weight + c.ne.weight)

-- the exact height lies between two elevations where each corner does and the weights add up to 250,000
pub height_within : (lo hi : ℕ) (c : Corners) → all_weigh c ≡ 250000 → EachCorner (SaysBetween lo hi) c → HeightWithin lo hi c
unfolding exact_height
height_within lo hi c all h =
    let sw = part_within _ h.sw in
    let se = part_within _ h.se in
    let nw = part_within _ h.nw in
    let ne = part_within _ h.ne in
    let low = simp add-mul at (ap (λ (t : ℕ). t * lo) all) in
    let high = simp add-mul at (ap (λ (t : ℕ). t * hi) all) in
    record { least = omega arith; most = omega arith }
