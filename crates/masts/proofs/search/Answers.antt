-- `search` meets its contract, by the law of the search: what each first mast that is tried does to the sum. Assumes nothing.
use Prim.Native.Nat.{◌+◌, ◌*◌}
use native.Mathlib.Omega.{arith}
use lib.ListN.{get_or}
use Rattle.std.specs.Prelude.{IfSome}
use Rattle.masts.specs.Clear.{clear_by}
use Rattle.masts.specs.Inside.{IsBetween}
use Rattle.masts.proofs.Laws.Masts.{Tried, none_clears, found, passed, planned}
use Rattle.masts.proofs.search.Goals.{At-loop-a, Joined-blocked_at, in-Some, in-None}
use Rattle.masts.proofs.search.Goals as goal

pub overflow_add-sum-in-None : goal.overflow_add-sum-in-None
overflow_add-sum-in-None c = omega (arith, c.least_second-second.ensures.least c.min-most.result c.in-None.ensures)

-- one first mast more
tried : (c : Joined-blocked_at) → (
    let a = c.args in
    IfSome c.match-blocked_at.tried (IsBetween a.line.n)
    × Tried
    (λ x y. clear_by (λ k. get_or a.needs.now k 0) a.line.n (a.line.from + 1000 * x) (a.line.to + 1000 * y))
    a.la
    a.lb
    c.match-blocked_at.sum
    c.match-blocked_at.best
    (c.loop-a.a + 1)
    )
tried c =
    let so_far = c.loop-a.invariant.tried in
    let most = c.min-most.ensures in
    elim c.match-blocked_at.branch [
      | in-Some w ↦ rw (w.tried-is, w.sum-is, w.best-is) (
        w.in-Some.ensures.between,
        passed so_far most (none_clears c.args.line.to c.min-most.result w.in-Some.ensures),
      )
      | in-None w ↦ rw (w.tried-is, w.sum-is, w.best-is) (
        c.loop-a.invariant.between,
        found so_far (omega arith) c.if-sum-a.false most w.least_second-second.ensures w.in-None.ensures,
      )
    ]

pub loop-a-preserved : goal.loop-a-preserved
loop-a-preserved c =
    let t = tried (goal.at.loop-a-preserved c).Joined-blocked_at in
    record { between = t.0; tried = t.1 }

pub returns-then-sum-a : goal.returns-then-sum-a
returns-then-sum-a c = planned c.loop-a.invariant.tried λ l. omega arith

pub returns-after-blocked_at : goal.returns-after-blocked_at
returns-after-blocked_at c = planned (tried (goal.at.returns-after-blocked_at c).Joined-blocked_at).1 λ l. omega arith
