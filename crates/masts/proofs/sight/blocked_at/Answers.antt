-- `blocked_at` meets its contract: the sample that blocked before, or the first between the ends at which the line is below the need. Assumes nothing.
use Prim.Native.Nat.{◌≤◌, ◌<◌}
use borrow.Author.Rules.{rules}
use borrow.Author.Tests.{tests}
use lib.ListN.{get_or}
use Rattle.std.proofs.lemmas.Iterator.{first_from_Range}
use Rattle.path.specs.Path.{line}
use Rattle.masts.proofs.Laws.Masts.{first_blocked}
use Rattle.masts.proofs.sight.blocked_at.Goals as goal

pub returns-in_default : goal.returns-in_default
returns-in_default c =
    let a = c.args in
    first_blocked (λ i. get_or a.needs.now i 0) a.line.n a.line.from a.line.to c.find.result
    (first_from_Range
    _
    _
    _
    _
    (λ i. line a.line.n a.line.from a.line.to i < get_or a.needs.now i 0)
    (λ i. get_or a.needs.now i 0 ≤ line a.line.n a.line.from a.line.to i)
    c.find.ensures.ran
    (λ x q k. search (rules, tests))
    (λ x q k. search (rules, tests)))
