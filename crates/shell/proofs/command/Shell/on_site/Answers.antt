-- `on_site` meets its contract: the search among the keys says whether the name is taken, and the new site is held after the others. Assumes nothing.
use Rattle.std.specs.Prelude.{Some, None, ◌≡◌, ℕ, ◌<◌}
use native.Mathlib.Omega.{arith}
use Rattle.std.proofs.Common.{rules}
use Rattle.std.proofs.lemmas.Grind.{common_steps}
use mathlib.Core.Path.{refl, ap}
use borrow.Author.Tests.{lt-ltb, le-ltb}
use lib.ListN.{length-append}
use Rattle.shell.specs.Session.{on_site}
use Rattle.shell.proofs.Laws.Sites.{looked, holds_added}
use Rattle.shell.proofs.command.Shell.on_site.Goals as goal

pub returns-then-is_some : goal.returns-then-is_some
unfolding on_site
returns-then-is_some c file s site h n e =
    let some : (i : ℕ) × (c.find.result ≡ Some i) = search rules in
    rw (looked site.name (Some some.0) h n (ap (λ x. x.key) e) (rw some.1 at c.find.ensures)).1 (refl, h)

pub returns-then-is_full : goal.returns-then-is_full
unfolding on_site
returns-then-is_full c file s site h n e =
    let none : c.find.result ≡ None = grind (arith, common_steps) in
    rw (
      looked site.name None h n (ap (λ x. x.key) e) (rw none at c.find.ensures),
      le-ltb _ _ (rw h.count at (c.is_full.ensures.0 c.if-is_full.true)),
    ) (refl, h)

pub returns : goal.returns
unfolding on_site
returns c file s site h n e =
    let none : c.find.result ≡ None = grind (arith, common_steps) in
    let room : c.args.self.now.sites.count < 32 = grind (arith, common_steps) in
    rw (
      looked site.name None h n (ap (λ x. x.key) e) (rw none at c.find.ensures),
      lt-ltb _ _ (rw h.count at room),
      c.add.ensures,
      e,
    ) (
      simp (length-append, h.count),
      holds_added site h n room,
    )
