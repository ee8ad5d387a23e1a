-- `mark_one` meets its contract: the number is marked where it is that of a record, and is else to be 0. Assumes nothing.
use Rattle.std.proofs.Common.{◌≡◌, ◌+◌, ◌-◌, sym, ◌∙◌, arith}
use Rattle.index.specs.Index.{is_record}
use Rattle.index.proofs.Laws.Marks.{record_most, marks_number, marks_none}
use Rattle.index.proofs.marks.mark_one.Goals.{After-is_record}
use Rattle.index.proofs.marks.mark_one.Goals as goal

-- what was said of the number
said : (c : After-is_record) → c.is_record.result ≡ is_record c.args.number c.args.highest
said c =
    let M = c.args.highest in
    let back : 6 + (M - 6) ≡ M = omega (arith, c.requires) in
    rw back at c.is_record.ensures

pub mark-requires : goal.mark-requires
mark-requires c =
    record_most _ _ c.requires.1 (sym (said c.before.before) ∙ c.if-is_record.true)

pub returns-then-is_record : goal.returns-then-is_record
returns-then-is_record c =
    marks_number (sym (said c.before.before.before) ∙ c.if-is_record.true) c.mark.ensures

pub returns : goal.returns
returns c = marks_none _ (sym (said c.before) ∙ c.if-is_record.false)
