-- The first number at which a test holds. Assumes nothing.
use Rattle.std.specs.Prelude.{ℕ, zero, suc, ◌+◌, Bool, cond}

-- the first of m, m + 1, .. at which the test holds; m + k where it holds at none of k
unfoldable pub first_from : (ℕ → Bool) → ℕ → ℕ → ℕ
first_from test zero m = m
first_from test (suc k) m = let later : ℕ = first_from test k (m + 1) in cond (test m) m later
