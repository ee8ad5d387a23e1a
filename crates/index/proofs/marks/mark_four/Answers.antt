-- `mark_four` meets its contract: one number after the other is marked. Assumes nothing.
use Rattle.std.proofs.Common.{◌≡◌, ℕ, ◌+◌, List, arith}
use Rattle.index.specs.Inside.{RecordAt, FourRecords}
use Rattle.index.specs.declared.marks.Four.{Four}
use Rattle.index.proofs.Laws.Marks.{marks_nothing, marks_more}
use Rattle.index.proofs.marks.mark_four.Goals as goal

-- the first of four, at the position that they begin at
first : (f : Four) (file : List ℕ) (M n : ℕ) → FourRecords f file M n → RecordAt f.first file M (n + 0)
first f file M n four = let e : n + 0 ≡ n = omega arith in rw e four.0

pub returns : goal.returns
returns c =
    let one = marks_more (marks_nothing _) (first _) c.mark-first.ensures in
    let two = marks_more one (λ file M n four. four.1) c.mark-second.ensures in
    let three = marks_more two (λ file M n four. four.2) c.mark-third.ensures in
    marks_more three (λ file M n four. four.3) c.mark-fourth.ensures
