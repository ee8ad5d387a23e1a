-- A word is its code and its elevation. From the definitions alone. Assumes nothing.
use mathlib.Core.Path.{◌≡◌}
use Prim.Native.Nat.{ℕ, ◌+◌, ◌*◌, ◌≤◌}
use native.Mathlib.Omega.{arith}
use Rattle.terrain.specs.Word.{code_of, elevation_of}

-- a word is 8192 x surface code + elevation, and one of 16 bits has one of eight codes
pub record IsWord (w : ℕ) : Type 0 where
  pub whole : 8192 * code_of w + elevation_of w ≡ w
  pub elevation : elevation_of w ≤ 8191
  pub code : w ≤ 65535 → code_of w ≤ 7

-- every number divides up so
pub word_is : (w : ℕ) → IsWord w
word_is w = record { whole = omega arith; elevation = omega arith; code = λ h. omega arith }
