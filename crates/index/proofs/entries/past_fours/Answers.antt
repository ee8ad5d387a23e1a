-- `past_fours` meets its contract: four positions that make the number 0 each hold 0. Assumes nothing.
use Rattle.std.proofs.Common.{◌+◌, refl, arith, rules}
use Rattle.index.proofs.Laws.Walk.{skip_one}
use Rattle.index.proofs.entries.past_fours.Goals as goal

pub loop-n-init : goal.loop-n-init
loop-n-init c = record { first = search rules; last = search rules; empty = λ n l h. omega arith }

pub loop-n-preserved : goal.loop-n-preserved
loop-n-preserved c =
    let n = c.loop-n.n in
    let one = skip_one _ _ _ n (n + 1) c.loop-n.invariant (omega arith) (omega arith) refl in
    let two = skip_one _ _ _ (n + 1) (n + 2) one (omega arith) (omega arith) (omega arith) in
    let three = skip_one _ _ _ (n + 2) (n + 3) two (omega arith) (omega arith) (omega arith) in
    skip_one _ _ _ (n + 3) (n + 4) three (omega arith) (omega arith) (omega arith)

pub returns-after-loop-n : goal.returns-after-loop-n
returns-after-loop-n c = c.loop-n.invariant

pub returns-then-four_positions-ne0 : goal.returns-then-four_positions-ne0
returns-then-four_positions-ne0 c = c.loop-n.invariant
