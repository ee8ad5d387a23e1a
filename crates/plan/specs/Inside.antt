-- What the functions inside this crate ask of each other and tell each other, on the way to the promises. A reader of the promises may pass
-- over this file. Assumes nothing.
use Rattle.std.specs.Prelude.{◌≡◌, List, ℕ, ◌≤◌, ◌<◌, length, get_or}

-- the needs from sample 1 to before the end, each at its place
pub record Needed (needs : ℕ → ℕ) (end : ℕ) (list : List ℕ) : Type 0 where
  pub first : 1 ≤ end
  pub long : length list ≡ 201
  pub at : (i : ℕ) → 1 ≤ i → i < end → get_or list i 0 ≡ needs i
