-- No number of the clear test is too large: what T, G and a sample's need are at most. From the law of quotients rounded up. Assumes nothing.
use Prim.Native.Nat.{ℕ, ◌+◌, ◌-◌, ◌*◌, ◌/◌, ◌≤◌, ◌<◌}
use native.Mathlib.Nat.{mul-le-mul, le_of_suc-le-suc, div-lt_iff_lt-mul}
use native.Mathlib.Omega.{arith}
use mir.Syntax.{w32}
use mir.Val.{Fits}
use Rattle.profile.specs.Profile.{Link, sample_of}
use Rattle.link.specs.Clear.{raised, T, G, need}
use Rattle.path.specs.Inside.{SoundPath}
use Rattle.profile.specs.Inside.{SoundLink}
use Rattle.masts.specs.Inside.{most_raised, most_need}
use Rattle.path.specs.declared.Path.{Path}
use Rattle.masts.proofs.Laws.Rounding.{rounded_up_lem}

-- N², Q i (N-i) with its parts, and their quotient are at most these
pub record Curve (w : Path) (i : ℕ) : Type 0 where
  pub some : 1 ≤ w.n * w.n
  pub most : w.n * w.n ≤ 40000
  pub part : w.q * i ≤ 2000000000000
  pub all : w.q * i * (w.n - i) ≤ 400000000000000
  pub quotient : (y : ℕ) → y < 17000 * (w.n * w.n) → (w.q * i * (w.n - i) + y) / (17000 * (w.n * w.n)) ≤ 588236

-- the parts of G keep `Curve`'s bounds on a path that was found
pub curve_most : (w : Path) (i : ℕ) → SoundPath w → i ≤ w.n → Curve w i
curve_most w i s h =
    let n = w.n in
    let some : 1 ≤ n * n = mul-le-mul s.some s.some in
    let most : n * n ≤ 40000 = mul-le-mul s.most s.most in
    let part = mul-le-mul {n₁ = w.q} {m₁ = i} {n₂ = 500 * n * (500 * n)} {m₂ = 200} s.reach (omega arith) in
    let all = mul-le-mul {n₁ = w.q * i} {m₁ = n - i} {n₂ = 500 * n * (500 * n) * 200} {m₂ = 200} part (omega arith) in
    record {
      some = some;
      most = most;
      part = omega arith;
      all = omega arith;
      quotient = λ y h. le_of_suc-le-suc ((div-lt_iff_lt-mul {x = w.q * i * (n - i) + y} {y = 588237} (omega arith)).1 (omega arith));
    }

-- the quotient fits 32 bits, rounded up or not
pub curve_fits : (w : Path) (i y : ℕ) → SoundPath w → i ≤ w.n → y < 17000 * (w.n * w.n)
    → Fits w32 ((w.q * i * (w.n - i) + y) / (17000 * (w.n * w.n)))
curve_fits w i y s h l = record { fits = omega (arith, (curve_most w i s h).quotient y l) }

-- T + G
pub height_most : (l : Link) (i : ℕ) → SoundLink l → i ≤ l.path.n → T (sample_of l.profile i) + G l.path i ≤ 8778236
unfolding T G
height_most l i s h =
    let top = (rounded_up_lem (sample_of l.profile i).height 250 8190000 (omega arith)).1 (s.heights i) in
    let c = curve_most l.path i s.path h in
    omega (arith, top, c.quotient (17000 * (l.path.n * l.path.n) - 1) (omega (arith, c.some)))

-- what a sample needs
pub need_most : (l : Link) (i : ℕ) → SoundLink l → i ≤ l.path.n → need l i ≤ most_need
unfolding need
need_most l i s h = omega (arith, mul-le-mul {n₂ = 200} {m₂ = 8778236} s.path.most (height_most l i s h))

-- A and B
pub raised_most : (l : Link) (i mast : ℕ) → SoundLink l → mast ≤ 100 → raised (sample_of l.profile i) mast ≤ most_raised
raised_most l i mast s h = omega (arith, s.heights i)
