-- `best_of_four` meets its contract: the first sum is joined with another one of its code, or ranked by itself. Assumes nothing.
use mathlib.Core.Path.{◌≡◌, refl, sym}
use mathlib.Core.List.{[], ◌∷◌}
use native.Mathlib.Omega.{arith}
use Rattle.reading.specs.Inside.{sum_in}
use Rattle.reading.proofs.Laws.Vote.{other, top_joined, top_more}
use Rattle.reading.proofs.vote.best_of_four.Goals as goal

pub best_of_three-requires : goal.best_of_three-requires
best_of_three-requires c =
    let pre = c.requires in
    rw c.with.ensures (record { coded = (pre.coded.0, (pre.coded.1.1.0, (pre.coded.1.1.1.0, tt))); light = omega (arith, pre.light) })

pub returns-then-a-b : goal.returns-then-a-b
returns-then-a-b c =
    let s = c.args in
    top_joined s.a s.b (s.c ∷ s.d ∷ []) (s.b ∷ s.c ∷ s.d ∷ []) c.if-a-b.true (λ k. refl)
    (rw c.with.ensures at c.best_of_three.ensures)

pub best_of_three-requires-then-a-c : goal.best_of_three-requires-then-a-c
best_of_three-requires-then-a-c c =
    let pre = c.requires in
    rw c.with-then-a-c.ensures (record { coded = (pre.coded.0, (pre.coded.1.0, (pre.coded.1.1.1.0, tt))); light = omega (arith, pre.light) })

pub returns-then-a-c : goal.returns-then-a-c
returns-then-a-c c =
    let s = c.args in
    top_joined s.a s.c (s.b ∷ s.d ∷ []) (s.b ∷ s.c ∷ s.d ∷ []) c.if-a-c.true (λ k. omega arith)
    (rw c.with-then-a-c.ensures at c.best_of_three-then-a-c.ensures)

pub best_of_three-requires-then-a-d : goal.best_of_three-requires-then-a-d
best_of_three-requires-then-a-d c =
    let pre = c.requires in
    rw c.with-then-a-d.ensures (record { coded = (pre.coded.0, (pre.coded.1.0, (pre.coded.1.1.0, tt))); light = omega (arith, pre.light) })

pub returns-then-a-d : goal.returns-then-a-d
returns-then-a-d c =
    let s = c.args in
    top_joined s.a s.d (s.b ∷ s.c ∷ []) (s.b ∷ s.c ∷ s.d ∷ []) c.if-a-d.true (λ k. omega arith)
    (rw c.with-then-a-d.ensures at c.best_of_three-then-a-d.ensures)

pub returns : goal.returns
returns c =
    let s = c.args in
    let none : sum_in (s.b ∷ s.c ∷ s.d ∷ []) s.a.code ≡ 0 =
    omega (
      arith,
      other s.b s.a.code (λ e. c.if-a-b.false (sym e)),
      other s.c s.a.code (λ e. c.if-a-c.false (sym e)),
      other s.d s.a.code (λ e. c.if-a-d.false (sym e)),
    ) in
    rw (c.max.ensures, c.rank.ensures)
    (top_more s.a (s.b ∷ s.c ∷ s.d ∷ []) c.best_of_three-2.result c.requires.coded.0 none c.best_of_three-2.ensures)
