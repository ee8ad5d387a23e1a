-- The line between two numbers, and the samples of a path on it: the first and the last are its ends, and each lies between them. From the law of N.
-- Assumes nothing.
use mathlib.Core.Path.{◌≡◌, sym, ◌∙◌, ap}
use Prim.Native.Nat.{ℕ, ◌-◌, ◌*◌, ◌≤◌}
use native.Mathlib.Nat.{
  mul-le-mul_left,
  add-mul,
  sub-add_cancel,
  sub-zero,
  sub_self,
  zero-mul,
  zero-add,
  add-zero,
  mul-div_cancel_left,
  le-div_iff_mul-le,
  div-le_of_le-mul,
}
use native.Mathlib.Omega.{arith}
use Rattle.ground.specs.declared.point.Point.{Point}
use Rattle.path.specs.Path.{Q, N, line, along, sample, path_of}
use Rattle.path.proofs.Laws.Steps.{N_is}

-- a number lies between two others
pub record Between (lo hi m : ℕ) : Type 0 where
  pub least : lo ≤ m
  pub most : m ≤ hi

-- a level line is N times as high throughout
level : (n i m : ℕ) → i ≤ n → line n m m i ≡ n * m
level n i m h = sym (add-mul (n - i) i m) ∙ ap (λ (k : ℕ). k * m) (sub-add_cancel h)

-- the line lies between N times what neither end is below and N times what neither is above
pub line_between : (n i from to lo hi : ℕ) → i ≤ n → Between lo hi from → Between lo hi to → Between (n * lo) (n * hi) (line n from to i)
line_between n i from to lo hi h f t =
    record {
      least = omega (arith, level n i lo h, mul-le-mul_left (n - i) f.least, mul-le-mul_left i t.least);
      most = omega (arith, level n i hi h, mul-le-mul_left (n - i) f.most, mul-le-mul_left i t.most);
    }

-- a number on the line lies between what neither end is below and what neither is above
pub along_between : (n i from to lo hi : ℕ) → 1 ≤ n → i ≤ n → Between lo hi from → Between lo hi to → Between lo hi (along n from to i)
unfolding along
along_between n i from to lo hi s h f t =
    let p = line_between n i from to lo hi h f t in
    record { least = (le-div_iff_mul-le s).1 (omega (arith, p.least)); most = div-le_of_le-mul n p.most }

-- at its first step a line is at its first end
along_first : (n from to : ℕ) → 1 ≤ n → along n from to 0 ≡ from
unfolding along
along_first n from to h = simp (sub-zero, zero-mul, add-zero) (mul-div_cancel_left from h)

-- at its last step a line is at its last end
along_last : (n from to : ℕ) → 1 ≤ n → along n from to n ≡ to
unfolding along
along_last n from to h = simp (sub_self, zero-mul, zero-add) (mul-div_cancel_left to h)

module _ (p q : Point) where
  -- sample 0 is the first end
  pub first_sample : sample (path_of p q) 0 ≡ p
  unfolding sample
  first_sample =
      let some = (N_is (Q p q)).some in
      simp (along_first (N (Q p q)) p.easting.0 q.easting.0 some, along_first (N (Q p q)) p.northing.0 q.northing.0 some)

  -- sample N is the second end, of the first end's zone
  pub last_sample : p.zone ≡ q.zone → sample (path_of p q) (N (Q p q)) ≡ q
  unfolding sample
  last_sample z =
      let some = (N_is (Q p q)).some in
      simp (z, along_last (N (Q p q)) p.easting.0 q.easting.0 some, along_last (N (Q p q)) p.northing.0 q.northing.0 some)

  -- each sample lies between the ends, in easting and in northing
  pub sample_between : (i : ℕ) → i ≤ N (Q p q) →
      let s = sample (path_of p q) i in
      ((lo hi : ℕ) → Between lo hi p.easting.0 → Between lo hi q.easting.0 → Between lo hi s.easting.0)
      × ((lo hi : ℕ) → Between lo hi p.northing.0 → Between lo hi q.northing.0 → Between lo hi s.northing.0)
  unfolding sample
  sample_between i h =
      let some = (N_is (Q p q)).some in (
        (λ lo hi f t. along_between (N (Q p q)) i _ _ lo hi some h f t),
        λ lo hi f t. along_between (N (Q p q)) i _ _ lo hi some h f t,
      )
