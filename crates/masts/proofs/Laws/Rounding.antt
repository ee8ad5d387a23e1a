-- Quotients rounded up: what they are at most. Assumes nothing.
use mathlib.Core.Path.{◌≡◌, ◌∙◌, ap}
use mathlib.Core.Logic.{◌↔◌}
use Prim.Native.Nat.{ℕ, ◌+◌, ◌-◌, ◌*◌, ◌≤◌}
use native.Mathlib.Nat.{div-lt_iff_lt-mul, mul_comm, mul-add, mul-one}
use native.Mathlib.Omega.{arith}
use Rattle.std.specs.Int.{div_ceil}
use Rattle.masts.specs.Clear.{rounded_up}

-- the quotient of m by d rounded up is at most k exactly if m is at most d k
pub rounded_up_lem : (m d k : ℕ) → 1 ≤ d → (rounded_up m d ≤ k) ↔ (m ≤ d * k)
rounded_up_lem m d k h =
    let product : (k + 1) * d ≡ d * k + d = mul_comm (k + 1) d ∙ mul-add d k 1 ∙ ap (λ (e : ℕ). d * k + e) (mul-one d) in
    let q = div-lt_iff_lt-mul {x = m + (d - 1)} {y = k + 1} h in (
      (λ l. omega (arith, product, q.0 (omega arith))),
      λ l. omega (arith, q.1 (omega (arith, product))),
    )

-- the library's quotient rounded up is that quotient
pub ceil_is : (m d : ℕ) → 1 ≤ d → div_ceil m d ≡ rounded_up m d
ceil_is m d h = grind arith
