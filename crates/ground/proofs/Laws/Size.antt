-- Facts over the sizes, whatever they are. `axis` is one direction of the grid, of s metres to a unit and t units to a rectangle: east with
-- 500 and 15, north with 500 and 31. `square` is the square between four grid points, and what each of them weighs. Assumes nothing.
use mathlib.Core.Path.{◌≡◌, sym, ◌∙◌, ap, ap₂}
use Prim.Native.Nat.{ℕ, ◌+◌, ◌-◌, ◌*◌, ◌/◌, ◌%◌, ◌≤◌, ◌<◌}
use native.Mathlib.Nat.{div-add-mod, mod-lt, mod_def, mul-div-le, add-sub_of_le, sub-add_cancel, add_assoc, add-mul, mul-add, mul_comm}

-- v metres along the axis, past an origin at o units: whole rectangles, units in the last one, and metres past the last unit give v back
pub record Axis (s t o v : ℕ) : Type 0 where
  pub back : s * (o + t * ((v / s - o) / t) + (v / s - o - t * ((v / s - o) / t))) + v % s ≡ v
  pub units : v / s - o - t * ((v / s - o) / t) < t
  pub metres : v % s < s

-- every v on the axis divides up as `Axis` says
pub axis : (s t o v : ℕ) → 0 < s → 0 < t → o ≤ v / s → Axis s t o v
axis s t o v hs ht h =
    let u = v / s - o in
    let whole = add_assoc o _ _ ∙ ap (λ (n : ℕ). o + n) (add-sub_of_le (mul-div-le u t)) ∙ add-sub_of_le h in
    record {
      back = ap (λ (n : ℕ). s * n + v % s) whole ∙ div-add-mod v s;
      units = rw (mod_def u t) at (mod-lt u ht);
      metres = mod-lt v hs;
    }

-- the weights of the corners of a square of side s, at x east and y north of its south-west corner: they balance at that point, the two in
-- the east weighing s * x and the two in the north s * y, and together weigh s * s
pub record Square (s x y : ℕ) : Type 0 where
  pub east : x * (s - y) + x * y ≡ s * x
  pub north : (s - x) * y + x * y ≡ s * y
  pub all : (s - x) * (s - y) + x * (s - y) + ((s - x) * y + x * y) ≡ s * s

-- the four products balance as `Square` says
pub square : (s x y : ℕ) → x ≤ s → y ≤ s → Square s x y
square s x y hx hy =
    let column : (n : ℕ) → (s - x) * n + x * n ≡ s * n = λ n. sym (add-mul (s - x) x n) ∙ ap (λ (m : ℕ). m * n) (sub-add_cancel hx) in
    record {
      east = sym (mul-add x (s - y) y) ∙ ap (λ (m : ℕ). x * m) (sub-add_cancel hy) ∙ mul_comm x s;
      north = column y;
      all = ap₂ (λ (m n : ℕ). m + n) (column (s - y)) (column y) ∙ sym (mul-add s (s - y) y) ∙ ap (λ (m : ℕ). s * m) (sub-add_cancel hy);
    }
