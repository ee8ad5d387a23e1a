-- `all_pass` meets its contract. Both loops' invariant: the positions before n have been walked over. Assumes nothing.
use Rattle.std.proofs.Common.{◌≤◌, sym, ◌∙◌, refl, arith}
use Rattle.index.specs.Inside.{Walked}
use Rattle.index.proofs.Laws.Walk.{walk_none, walk_empty}
use Rattle.index.proofs.entries.all_pass.Goals.{In-Some}
use Rattle.index.proofs.entries.all_pass.Goals as goal

-- where the numbers that were passed by fours end
came : (c : In-Some) → (
    let r = c.in-Some.next in
    Walked c.args.file.now c.args.highest c.past_records.new.marks r × ((c.loop-n.n ≤ r) × (r ≤ c.args.end))
    )
came c = rw c.in-Some.is at c.past_records.ensures

pub loop-n-init : goal.loop-n-init
loop-n-init c = (walk_none c.requires.1.1.1, omega arith)

pub returns-in_default : goal.returns-in_default
returns-in_default c = sym (rw c.in_default.is at c.past_records.ensures)

pub loop-n-preserved-then-n-last : goal.loop-n-preserved-then-n-last
loop-n-preserved-then-n-last c =
    let w = c.mark_one.ensures.goes (came (goal.at.loop-n-preserved-then-n-last c).In-Some).0 (c.from.ensures ∙ c.nth.ensures, refl) c.if-not-mark_one.false in
    (walk_empty w c.past_fours-n.ensures, c.past_fours-n.ensures.last)
