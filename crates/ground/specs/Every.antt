-- A test at each number of a range, as one test that can be run. Assumes nothing.
use Rattle.std.specs.Prelude.{ℕ, zero, suc, Bool, true, ◌&&◌, ◌||◌, ltb}

-- the test holds at each number from the first to before the end
unfoldable pub every : (test : ℕ → Bool) → (first end : ℕ) → Bool
every test first zero = true
every test first (suc n) = every test first n && (ltb n first || test n)
