-- `least_second` meets its contract, by the law of the least second mast: what each sample does to it. Assumes nothing.
use Prim.Native.Nat.{◌+◌, ◌*◌, ◌≤◌}
use native.Mathlib.Omega.{arith}
use Rattle.masts.specs.Inside.{most_raised}
use Rattle.masts.proofs.Laws.Masts.{none_tried, stays, rises, least_within, least_at_end}
use Rattle.masts.proofs.sight.least_second.Goals.{At-loop-i, then-height-need, else-height-need}
use Rattle.masts.proofs.sight.least_second.Goals as goal

pub loop-i-init : goal.loop-i-init
loop-i-init c = (omega arith, none_tried)

-- the mast so far is no taller than one that clears the path
bounded : (w : At-loop-i) → w.args.line.to + 1000 * w.loop-i.mast ≤ most_raised
bounded w =
    let some = w.requires.1 in
    omega (arith, least_within w.loop-i.invariant.1 w.loop-i.invariant.0 some.mast some.clear)

pub overflow_mul-raised : goal.overflow_mul-raised
overflow_mul-raised c = omega (arith, bounded (goal.at.overflow_mul-raised c).At-loop-i)

pub overflow_add-raised : goal.overflow_add-raised
overflow_add-raised c = omega (arith, bounded (goal.at.overflow_add-raised c).At-loop-i)

pub height-height-requires : goal.height-height-requires
height-height-requires c = omega (arith, bounded (goal.at.height-height-requires c).At-loop-i)

pub loop-i-preserved : goal.loop-i-preserved
loop-i-preserved c =
    elim c.if-height-need.branch [
      | then-height-need w ↦ (omega arith, rw w.mast-is (rises c.loop-i.invariant.1 c.height-height.ensures w.rounded_up-mast.ensures))
      | else-height-need w ↦ (omega arith, rw w.mast-is (stays c.loop-i.invariant.1 (omega arith)))
    ]

pub returns : goal.returns
returns c = least_at_end c.loop-i.invariant.1 (omega arith)
