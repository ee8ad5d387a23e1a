-- `is_clear` meets its contract: each sample between the ends is tested. Assumes nothing.
use mathlib.Core.Path.{refl}
use Prim.Native.Nat.{◌-◌, ◌≤◌, ◌<◌}
use borrow.Author.Rules.{rules}
use borrow.Author.Tests.{tests}
use Rattle.std.proofs.lemmas.Iterator.{cases_from_all, YieldsList-from_range}
use Rattle.path.specs.Path.{line}
use Rattle.profile.specs.Profile.{link_of}
use Rattle.link.specs.Clear.{need, clear}
use Rattle.link.proofs.Laws.Between.{each_tested}
use Rattle.link.proofs.clear.Link.is_clear.Goals as goal

pub returns : goal.returns
unfolding clear
returns c =
    let w = c.line-line.result in
    let needs = need (link_of c.args.self.now.path c.args.self.now.samples.now) in
    let tested = each_tested needs w.n w.from w.to c.all.result
    (cases_from_all
    _
    _
    _
    (λ i. needs i ≤ line w.n w.from w.to i)
    (λ i. line w.n w.from w.to i < needs i)
    c.all.ensures.ran
    (YieldsList-from_range 1 w.n (w.n - 1) refl refl)
    (λ x q k. search (rules, tests))
    (λ x q k. search (rules, tests))) in
    rw c.line-line.ensures at tested
