-- The row of each sample of a path whose profile is given. From the laws of the link. Assumes nothing.
use mathlib.Core.Path.{◌≡◌, refl}
use mathlib.Core.Bool.{false}
use mathlib.Core.List.{List}
use Prim.Native.Nat.{ℕ, ◌≤◌}
use native.Mathlib.Omega.{arith}
use lib.ListN.{get_or}
use lib.IntN.{negsuc}
use lib.Ieee.{fin, div, of_int}
use Rattle.ground.specs.Outcome.{given}
use Rattle.ground.specs.declared.point.Point.{Point}
use Rattle.reading.specs.Engine.{metres_of}
use Rattle.path.specs.Path.{Q, N, ask_sample}
use Rattle.profile.specs.Profile.{Profile, profile}
use Rattle.profile.specs.Row.{share, row}
use Rattle.profile.proofs.Laws.Link.{link_given}

-- the row of sample i is given: its height in metres, and i divided by N
pub row_given : (file : List ℕ) (base zone : ℕ) (p q : Point) (pr : Profile) → profile file base zone p q ≡ given pr → (i : ℕ) → i ≤ N (Q p q)
    → row file base zone p q i ≡ given (record { height = metres_of (get_or pr.heights i 0); share = share i (N (Q p q)) })
unfolding row
row_given file base zone p q pr e i h = simp (link_given file base zone (ask_sample p q i) pr e (record { a = omega arith; b = omega arith; i = h }))

-- half-way is 0.5, as a double 1 x 2^-1
pub half_way : share 1 2 ≡ fin false 1 (negsuc 0)
unfolding div of_int
half_way = refl
