-- `next_entry` meets its contract: past the fours each position is looked at, up to the first that does not hold 0. Assumes nothing.
use Rattle.std.proofs.Common.{◌≡◌, ◌+◌, refl, arith}
use Rattle.index.proofs.Laws.Walk.{skip_one}
use Rattle.index.proofs.entries.next_entry.Goals as goal

pub loop-n-init : goal.loop-n-init
loop-n-init c = c.past_fours-n.ensures

pub loop-n-preserved : goal.loop-n-preserved
loop-n-preserved c =
    skip_one _ _ _ c.loop-n.n (c.loop-n.n + 1) c.loop-n.invariant (omega arith) (omega arith) refl

pub returns : goal.returns
returns c =
    let e : c.loop-n.n ≡ c.args.end = omega arith in
    record { skipped = rw e at c.loop-n.invariant; holds = λ h z. omega arith }

pub returns-then-nth-ne0 : goal.returns-then-nth-ne0
returns-then-nth-ne0 c = record { skipped = c.loop-n.invariant; holds = λ h z. omega arith }
