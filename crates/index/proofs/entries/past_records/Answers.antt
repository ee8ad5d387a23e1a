-- `past_records` meets its contract. The loop's invariant: the positions before n have been walked over. Assumes nothing.
use Rattle.std.proofs.Common.{◌≡◌, true, arith}
use Rattle.index.specs.Inside.{FourRecords}
use Rattle.index.proofs.Laws.Marks.{four_records, record_most}
use Rattle.index.proofs.entries.past_records.Goals.{After-are_records}
use Rattle.index.proofs.entries.past_records.Goals as goal

-- four numbers of records, in their positions
four : (c : After-are_records) → c.are_records.result ≡ true → (
    let a = c.args in
    FourRecords c.four_at-four.result a.file.now a.highest c.loop-n.n
    )
four c e = four_records _ c.four_at-four.ensures c.are_records.ensures e

pub loop-n-init : goal.loop-n-init
loop-n-init c = (c.requires.0, omega arith)

pub mark_four-requires : goal.mark_four-requires
mark_four-requires c =
    let f = four (goal.at.mark_four-requires c).After-are_records c.if-not-are_records.false in
    let most = c.loop-n.invariant.0.most in
    ((record_most _ _ most f.0.1, record_most _ _ most f.1.1), (record_most _ _ most f.2.1, record_most _ _ most f.3.1))

pub returns-then-not-mark_four : goal.returns-then-not-mark_four
returns-then-not-mark_four c =
    let w = c.loop-n.invariant.0 in
    let f = four (goal.at.returns-then-not-mark_four c).After-are_records c.if-not-are_records.false in
    c.mark_four.ensures.stops w f c.if-not-mark_four.true _ (omega arith)

pub loop-n-preserved : goal.loop-n-preserved
loop-n-preserved c =
    let w = c.loop-n.invariant.0 in
    let f = four (goal.at.loop-n-preserved c).After-are_records c.if-not-are_records.false in
    (c.mark_four.ensures.goes w f c.if-not-mark_four.false, omega arith)

pub returns-after-loop-n : goal.returns-after-loop-n
returns-after-loop-n c = c.loop-n.invariant

pub returns-then-not-are_records : goal.returns-then-not-are_records
returns-then-not-are_records c = c.loop-n.invariant
