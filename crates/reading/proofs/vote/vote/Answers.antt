-- `vote` meets its contract: between two codes the nearer one decides, else the four corners do. Assumes nothing.
use native.Mathlib.Omega.{arith}
use Rattle.reading.proofs.Laws.Vote.{weigh, columns_vote, rows_vote, top_decides, four_vote}
use Rattle.reading.proofs.vote.vote.Goals as goal

pub returns-then-is_like : goal.returns-then-is_like
returns-then-is_like c =
    columns_vote _ _ _ c.requires
    (rw c.is_like.ensures at c.if-is_like.true)
    (rw (c.first_code.ensures, c.second_code.ensures) at c.nearer.ensures)

pub returns-then-has_one_code-2 : goal.returns-then-has_one_code-2
returns-then-has_one_code-2 c =
    rows_vote _ _ _ c.requires
    (rw c.has_one_code.ensures at c.if-has_one_code.true)
    (rw c.has_one_code-then-has_one_code.ensures at c.if-has_one_code-2.true)
    (rw (c.first_code-then-has_one_code-2.ensures, c.first_code-then-has_one_code-2-2.ensures) at c.nearer-then-has_one_code-2.ensures)

pub best_of_four-best-requires : goal.best_of_four-best-requires
best_of_four-best-requires c =
    record {
      coded = (
        omega (arith, c.first_code-2.ensures),
        (omega (arith, c.second_code-2.ensures), (omega (arith, c.first_code-3.ensures), (omega (arith, c.second_code-3.ensures), tt))),
      );
      light = omega (arith, weigh _ c.requires);
    }

pub returns : goal.returns
returns c =
    four_vote _
    (rw (c.first_code-2.ensures, c.second_code-2.ensures, c.first_code-3.ensures, c.second_code-3.ensures) at
    (top_decides _ _ (omega (arith, weigh _ c.requires)) c.best_of_four-best.ensures))
