-- `search` meets its contract. The loop's invariant: the first masts below `a` have been tried. Assumes nothing.
use Prim.Native.Nat.{◌+◌, ◌*◌}
use lib.ListN.{get_or}
use Rattle.std.specs.Prelude.{IfSome}
use Rattle.masts.specs.Clear.{clear_by}
use Rattle.masts.specs.Inside.{IsBetween}
use Rattle.masts.proofs.Laws.Masts.{Tried}
use Rattle.masts.proofs.search.Given as goal

abbrev pub invariant-loop-a : goal.invariant-loop-a
invariant-loop-a l = record {
  between : IfSome l.tried (IsBetween l.line.n);
  tried : Tried (λ x y. clear_by (λ k. get_or l.needs k 0) l.line.n (l.line.from + 1000 * x) (l.line.to + 1000 * y)) l.la l.lb l.sum l.best l.a;
}
