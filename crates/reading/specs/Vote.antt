-- The surface code of a point. Document 01, "A reading": the one with the greatest sum of weights, ties to the smaller code (house tie rule).
-- Assumes nothing.
use Rattle.std.specs.Prelude.{cond, ℕ, zero, suc, ◌+◌, ◌≤◌, ◌<◌, ltb, eqb}
use Rattle.reading.specs.Corner.{Corner, Corners}

-- what a corner weighs for a code: its weight if the code is its own
abbrev pub weight_for : ℕ → Corner → ℕ
weight_for code c = cond (eqb c.code code) c.weight 0

-- the sum of weights of a code
unfoldable pub sum_for : Corners → ℕ → ℕ
sum_for c code = weight_for code c.sw + weight_for code c.se + weight_for code c.nw + weight_for code c.ne

-- the number from 0 to n at which f is greatest, the smallest of those where it ties: a later one must be greater
unfoldable pub greatest : (ℕ → ℕ) → ℕ → ℕ
greatest f zero = 0
greatest f (suc n) =
    let best : ℕ = greatest f n in
    cond (ltb (f best) (f (suc n))) (suc n) best

-- f is greatest at `best`, in document 01's words: of the numbers 0 to n none has more, and every smaller one has less, so ties go to the smaller
pub record Greatest (f : ℕ → ℕ) (n best : ℕ) : Type 0 where
  pub within : best ≤ n
  pub most : (k : ℕ) → k ≤ n → f k ≤ f best
  pub tie : (k : ℕ) → k < best → f k < f best

-- the surface code of four corners: of the codes 0 to 7, the one with the greatest sum of weights, ties to the smaller
unfoldable pub vote : Corners → ℕ
vote c = greatest (sum_for c) 7
