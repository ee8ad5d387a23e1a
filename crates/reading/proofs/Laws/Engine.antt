-- Both numbers of the engine's metres are converted without loss: the doubles are the exact sum, which fits 32 bits, and 250,000.
-- From the toolchain's law of whole numbers below 2^53. Assumes nothing.
use mathlib.Core.Path.{◌≡◌, refl}
use mathlib.Core.Bool.{false}
use Prim.Native.Nat.{ℕ, ◌≤◌}
use native.Mathlib.Omega.{arith}
use lib.Dec.{lit≤}
use lib.IntN.{pos}
use lib.Ieee.{binary64, of_int, of_bits}
use lib.Ieee.Exact.{HasValue}
use lib.Ieee.Back.{round_whole}

-- a number of 32 bits is a double without loss
pub without_loss : (n : ℕ) → n ≤ 4294967295 → HasValue (of_int binary64 (pos n)) false n 1
unfolding of_int
without_loss n h = round_whole binary64 false n (omega arith)

-- the program's 0.0 is the double of 0
pub nought : of_bits binary64 0 ≡ of_int binary64 (pos 0)
unfolding of_int of_bits
nought = refl

-- 250,000 is a double without loss
pub divisor_without_loss : HasValue (of_int binary64 (pos 250000)) false 250000 1
divisor_without_loss = without_loss 250000 (lit≤ tt)
