-- `nearer` meets its contract: of two codes the nearer one has the higher rank, half way the smaller. Assumes nothing.
use Prim.Native.Nat.{◌<◌, ◌≤◌, min}
use native.Mathlib.Decide.{dec_lt}
use native.Mathlib.Nat.{le_of_lt}
use native.Mathlib.Omega.{arith}
use Rattle.std.proofs.Math.Nat.{min-eq_left, min-eq_right}
use Rattle.reading.specs.Inside.{Decides, from_to}
use Rattle.reading.proofs.Laws.Vote.{first_decides, second_decides}
use Rattle.reading.proofs.vote.nearer.Goals as goal

pub returns-then-f-lt-HALF_WAY : goal.returns-then-f-lt-HALF_WAY
returns-then-f-lt-HALF_WAY c = first_decides _ _ (omega arith) (omega arith) (omega arith) (omega arith)

pub returns-then-f-gt-HALF_WAY : goal.returns-then-f-gt-HALF_WAY
returns-then-f-gt-HALF_WAY c = second_decides _ _ (omega arith) (omega arith) (omega arith) (omega arith)

pub returns : goal.returns
returns c = rw c.min.ensures (go (dec_lt c.args.to c.args.from))
  where
    go : Dec (c.args.to < c.args.from) → Decides (from_to c.args.f c.args.from c.args.to) (min c.args.from c.args.to)
    go (yes l) = rw (min-eq_right (le_of_lt l)) (second_decides _ _ (omega arith) (omega arith) (omega arith) (omega arith))
    go (no l) =
        let m : c.args.from ≤ c.args.to = omega arith in
        rw (min-eq_left m) (first_decides _ _ (omega arith) (omega arith) (omega arith) (omega arith))
