-- A path that was found: its ends are on the ground, it is neither too short nor too long, what was asked of it is not too much, and its numbers are
-- within their bounds. From the laws of the ground and of N. Assumes nothing.
use mathlib.Core.Path.{◌≡◌, refl}
use mathlib.Core.Bool.{true, false, not, or-true}
use mathlib.Core.Logic.{◌⊎◌, inl, inr}
use Prim.Native.Nat.{ℕ, ◌≤◌, ◌<◌}
use native.Mathlib.Omega.{arith}
use lib.Dec.{ltb, eqb}
use borrow.Author.Tests.{ltb-false, lt-ltb, le-ltb, eqb-false, ne_eqb, not-false}
use Rattle.ground.specs.Outcome.{given}
use Rattle.ground.specs.Boundary.{y_end}
use Rattle.ground.specs.Ground.{holds}
use Rattle.ground.specs.declared.Ground.{Ground}
use Rattle.ground.specs.declared.point.Point.{Point}
use Rattle.ground.proofs.Laws.Test.{neither}
use Rattle.ground.proofs.Laws.Outcome.{past}
use Rattle.ground.proofs.Laws.Ground.{held}
use Rattle.path.specs.Path.{N, farthest, too_short_or_long, over_asked, path_of, path_on}
use Rattle.path.specs.Inside.{Near, SoundPath}
use Rattle.path.specs.declared.Path.{Path}
use Rattle.path.specs.declared.Asked.{Asked}
use Rattle.path.proofs.Laws.Steps.{N_is, N_most}

-- the greatest Q of a path, in document 01's digits
pub farthest_is : farthest ≡ 10000000000
farthest_is = refl

-- a path of 1 m to 100 km is neither too short nor too long
pub fits_length : (q : ℕ) → 1 ≤ q → q ≤ farthest → too_short_or_long q ≡ false
fits_length q some most = simp (ne_eqb q 0 (λ e. omega arith), le-ltb farthest q most)

-- a path that is too short or too long
pub no_length : (q : ℕ) → (q ≡ 0) ⊎ ((q ≡ 0 → ⊥) × (farthest < q)) → too_short_or_long q ≡ true
no_length q (inl none) = rw none
no_length q (inr far) = simp (lt-ltb _ _ far.1, or-true)

-- a path that is neither too short nor too long
pub length_is : (q : ℕ) → too_short_or_long q ≡ false → (1 ≤ q) × (q ≤ farthest)
length_is q e =
    let t = neither (eqb q 0) (ltb farthest q) e in
    let some = eqb-false q 0 t.0 in
    (omega (arith, some), ltb-false _ _ t.1)

-- a point that the ground of a file holds is near
pub held_near : (g : Ground) (p : Point) → g.north.0 ≤ y_end → holds g p ≡ true → Near p
held_near g p n h = let t = held g p h in record { easting = omega arith; northing = omega arith }

-- the ends are on the ground, the path is neither too short nor too long, and what was asked of it is not too much
pub record IsPath (g : Ground) (asks : Asked) (w : Path) : Type 0 where
  pub is : w ≡ path_of asks.first asks.second
  pub first : holds g asks.first ≡ true
  pub second : holds g asks.second ≡ true
  pub some : 1 ≤ w.q
  pub most : w.q ≤ farthest
  pub asked : over_asked w.n asks.a asks.b asks.i ≡ false

-- what it means that a path was found
pub path_is : (g : Ground) (asks : Asked) (w : Path) → path_on g asks ≡ given w → IsPath g asks w
unfolding path_on
path_is g asks w e =
    let o = path_of asks.first asks.second in
    let a = past (not (holds g o.first)) 4 _ w e in
    let b = past (not (holds g o.second)) 4 _ w a.1 in
    let c = past (too_short_or_long o.q) 7 _ w b.1 in
    let d = past (over_asked o.n asks.a asks.b asks.i) 8 (given o) w c.1 in
    let i : w ≡ o = cc d.1 in
    let l = length_is o.q c.0 in
    rw i (record { is = refl; first = not-false _ a.0; second = not-false _ b.0; some = l.0; most = l.1; asked = d.0 })

-- a path that was found on a file's ground has numbers within their bounds
pub path_sound : {g : Ground} {asks : Asked} {w : Path} → g.north.0 ≤ y_end → IsPath g asks w → SoundPath w
path_sound {g} {asks} {w} n i =
    let e : w.n ≡ N w.q = rw i.is in
    record {
      first = rw i.is (held_near g asks.first n i.first);
      second = rw i.is (held_near g asks.second n i.second);
      some = rw e (N_is w.q).some;
      most = rw e (N_most w.q i.most);
      reach = rw e (N_is w.q).reach;
    }
