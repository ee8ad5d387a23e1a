-- `find_needs` meets its contract: each need is put in its place once. Assumes nothing.
use mathlib.Core.Path.{◌≡◌}
use native.Mathlib.Omega.{arith}
use Rattle.plan.proofs.Laws.Needs.{none_needed, one_needed}
use Rattle.plan.proofs.find_needs.Goals as goal

pub loop-i-init : goal.loop-i-init
loop-i-init c = (omega arith, none_needed c.requires)

pub loop-i-preserved : goal.loop-i-preserved
loop-i-preserved c =
    (omega arith, one_needed c.loop-i.i c.need.result c.loop-i.invariant.1 (omega (arith, c.args.link.now.sound.path.most)) c.need.ensures)

pub returns : goal.returns
returns c =
    let e : c.loop-i.i ≡ c.args.link.now.path.n = omega arith in
    rw e at c.loop-i.invariant.1
