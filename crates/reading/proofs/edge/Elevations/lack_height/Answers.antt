-- `Elevations::lack_height` meets its contract: with 1 added, an elevation has the bit of 8192 exactly if it was 8191. Assumes nothing.
use mathlib.Core.Path.{◌≡◌}
use Prim.Native.Nat.{ℕ, ◌+◌, ◌/◌, ◌%◌, ◌≤◌}
use native.Mathlib.Omega.{arith}
use borrow.Author.Tests.{eqb-true, eq-eqb}
use lib.Dec.{eqb}
use Rattle.ground.proofs.Laws.Test.{same_test}
use Rattle.reading.proofs.edge.Elevations.lack_height.Goals as goal

-- two equations that hold together are the same test
same-equal : (a b c d : ℕ) → (a ≡ b → c ≡ d) → (c ≡ d → a ≡ b) → eqb a b ≡ eqb c d
same-equal a b c d to from = same_test (eqb a b) (eqb c d) ((λ e. eq-eqb c d (to (eqb-true a b e))), λ e. eq-eqb a b (from (eqb-true c d e)))

-- the bits of 8192 at the two ends
bits : (n : ℕ) → n / 65536 ≤ 8191 → n % 65536 ≤ 8191
    → (eqb ((n + 65536 + 1) / 536870912 % 2) 1 ≡ eqb (n / 65536) 8191) × (eqb ((n + 65536 + 1) / 8192 % 2) 1 ≡ eqb (n % 65536) 8191)
bits n first second = (
  same-equal ((n + 65536 + 1) / 536870912 % 2) 1 (n / 65536) 8191 (λ e. omega arith) (λ e. omega arith),
  same-equal ((n + 65536 + 1) / 8192 % 2) 1 (n % 65536) 8191 (λ e. omega arith) (λ e. omega arith),
)

pub returns : goal.returns
returns c =
    let h = c.requires in
    let b = bits c.args.self.0 h.first h.second in
    rw (b.0, b.1)
