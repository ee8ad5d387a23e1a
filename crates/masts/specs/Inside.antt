-- What functions of this crate and of the link ask of each other and tell each other, on the way to the promises. A reader of the promises may pass over
-- this file. Assumes nothing.
use Rattle.std.specs.Prelude.{◌≡◌, Bool, true, List, ℕ, ◌+◌, ◌*◌, ◌≤◌, ◌<◌, get_or}
use Rattle.path.specs.Path.{line}
use Rattle.masts.specs.Clear.{clear_by}

-- the greatest height of an end, in millimetres: 8190 m of ground and 100 m of mast
abbrev pub most_raised : ℕ
most_raised = 8290000

-- The bound of a need: no sample needs more, and what the line lacks of a need can be rounded up in 32 bits.
abbrev pub most_need : ℕ
most_need = 2000000000

-- what the search goes by is within its bounds: the steps, the ends with their masts, and the needs
pub record Sides (n A B : ℕ) (list : List ℕ) : Type 0 where
  pub some : 1 ≤ n
  pub most : n ≤ 200
  pub first : A ≤ most_raised
  pub last : B ≤ most_raised
  pub needs : (i : ℕ) → 1 ≤ i → i < n → get_or list i 0 ≤ most_need

-- i is a sample between the ends
abbrev pub IsBetween : (n i : ℕ) → Type 0
IsBetween n i = (1 ≤ i) × (i < n)

-- i is a sample between the ends at which the line from A to B is below the need
pub record BlockedAt (needs : ℕ → ℕ) (n A B i : ℕ) : Type 0 where
  pub between : IsBetween n i
  pub blocked : line n A B i < needs i

-- with some second mast, within its bound, the path is clear
pub record SomeSecond (needs : ℕ → ℕ) (n A B : ℕ) : Type 0 where
  pub mast : ℕ
  pub bound : B + 1000 * mast ≤ most_raised
  pub clear : clear_by needs n A (B + 1000 * mast) ≡ true

-- r is the least second mast that clears
pub record LeastSecond (clears : ℕ → Bool) (r : ℕ) : Type 0 where
  pub clear : clears r ≡ true
  pub least : (b : ℕ) → clears b ≡ true → r ≤ b
