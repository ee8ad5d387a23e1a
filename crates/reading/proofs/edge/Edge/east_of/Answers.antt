-- `Edge::east_of` meets its contract: four bytes, high byte first, are two numbers of two bytes each. Assumes nothing.
use mathlib.Core.Path.{◌≡◌}
use Prim.Native.Nat.{ℕ, ◌+◌, ◌-◌, ◌*◌}
use native.Mathlib.Omega.{arith}
use Rattle.std.specs.Prelude.{slice_index}
use Rattle.index.specs.Bytes.{nth}
use Rattle.reading.proofs.Laws.Edge.{told_apart}
use Rattle.reading.proofs.edge.Edge.east_of.Goals as goal

pub returns : goal.returns
unfolding nth
returns c =
    let w = c.args.w in
    let at = 2 * (w - 1) in
    let b : ℕ → ℕ = slice_index c.args.bytes.now in
    let next : 2 * (w + 1 - 1) ≡ 2 * (w - 1) + 2 = omega (arith, c.requires.0) in
    let last : 2 * (w - 1) + 2 + 1 ≡ 2 * (w - 1) + 3 = omega arith in
    let is : c.from_be_bytes.result ≡ 65536 * (256 * b at + b (at + 1)) + (256 * b (at + 2) + b (at + 3)) = omega (arith, c.from_be_bytes.ensures) in
    let apart = told_apart _ _ _ is (omega (arith, c.type_inv.bytes (at + 2), c.type_inv.bytes (at + 3))) in
    record { first = apart.0; second = rw (next, last) apart.1 }
