-- The clear test on numbers: the line between two ends, against what each sample between them needs. Document 01, "A path". Assumes nothing.
use Rattle.std.specs.Prelude.{ℕ, ◌+◌, ◌-◌, ◌/◌, Bool, leb}
use Rattle.ground.specs.Every.{every}
use Rattle.path.specs.Path.{line}

-- a quotient rounded up
abbrev pub rounded_up : ℕ → ℕ → ℕ
rounded_up m d = (m + (d - 1)) / d

-- the test at sample i: the line, (N-i) A + i B, is not below what the sample needs; touching is clear
abbrev pub clear_at : (needs : ℕ → ℕ) → (n A B i : ℕ) → Bool
clear_at needs n A B i = leb (needs i) (line n A B i)

-- the test holds at each i from 1 to N-1; with N = 1 there is no such i, and every pair is clear
unfoldable pub clear_by : (needs : ℕ → ℕ) → (n A B : ℕ) → Bool
clear_by needs n A B = every (clear_at needs n A B) 1 n
