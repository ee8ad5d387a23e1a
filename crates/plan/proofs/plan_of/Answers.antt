-- `plan_of` meets its contract: `search` goes by the needs that `find_needs` wrote and by the ends without masts, which say of each pair what
-- the clear test does. Assumes nothing.
use Prim.Native.Nat.{◌+◌, ◌*◌}
use lib.ListN.{get_or}
use Rattle.profile.specs.Profile.{Link, link_of, sample_of}
use Rattle.masts.specs.Clear.{clear_by}
use Rattle.link.specs.Clear.{raised}
use Rattle.masts.specs.Plan.{Demand3, planned_means}
use Rattle.plan.proofs.Laws.Needs.{sides, demand_of_search}
use Rattle.plan.proofs.plan_of.Goals.{Start}
use Rattle.plan.proofs.plan_of.Goals as goal

-- what is asked about
abbrev link : Start → Link
link c = link_of c.args.link.now.path c.args.link.now.samples.now

pub search-requires : goal.search-requires
search-requires c =
    (rw c.line.ensures (sides (link (goal.at.search-requires c).Start) _ c.find_needs.ensures c.args.link.now.sound c.args.la c.args.lb c.requires.0 c.requires.1), c.requires)

pub returns : goal.returns
returns c =
    let l = link (goal.at.returns c).Start in
    let ends = c.line.ensures in
    let found : Demand3 (λ a b. clear_by (λ i. get_or c.find_needs.new.needs i 0) l.path.n (raised (sample_of l.profile 0) 0 + 1000 * a) (raised (sample_of l.profile l.path.n) 0 + 1000 * b)) c.args.la c.args.lb (planned_means c.search.result) =
    rw ends at c.search.ensures in
    demand_of_search l _ c.find_needs.ensures c.args.la c.args.lb (planned_means c.search.result) found
