-- `answer_lines` meets its contract: one line more is answered in each turn, up to where it stops. Assumes nothing.
use Prim.Native.Nat.{ℕ, ◌+◌}
use native.Mathlib.Omega.{arith}
use mathlib.Core.Path.{◌≡◌, sym, ◌∙◌}
use mathlib.Core.List.{List}
use lib.ListN.{length}
use Rattle.lines.specs.Text.{line_at}
use Rattle.lines.specs.Line.{reading}
use Rattle.lines.specs.Key.{keyed}
use Rattle.shell.specs.declared.answer.Answer.TheVariants as answer
use Rattle.shell.proofs.Laws.Answer.{said_short}
use Rattle.shell.proofs.Laws.Done.{none_done, one_done, more_stops, use_stops, full_stops}
use Rattle.shell.proofs.Laws.Line.{says_use, says_bad, asks}
use Rattle.lines.proofs.Laws.Feed.{same_end}
use Rattle.shell.proofs.feed.answer_lines.Goals.{After-line_end-end}
use Rattle.shell.proofs.feed.answer_lines.Goals as goal

-- In the loop, once the end of the line at the place was looked for:
module _ (c : After-line_end-end) where
  abbrev input : List ℕ
  input = c.args.input.now

  abbrev line : List ℕ
  line = line_at input c.loop-answers.at

  -- what the line says
  keyed-line : c.read_line-read.result.line ≡ keyed (reading line)
  keyed-line = c.read_line-read.ensures.line

  -- the end of the line
  end : c.line_end-end.result ≡ c.loop-answers.at + length line
  end =
      let r = c.read_line-read.ensures in
      c.line_end-end.ensures ∙ same_end input c.loop-answers.at c.read_line-read.result.at r.after r.within

pub loop-answers-init : goal.loop-answers-init
loop-answers-init c = none_done _ _ _ _ _

pub returns-then-input-end : goal.returns-then-input-end
returns-then-input-end c =
    let at = (goal.at.returns-then-input-end c).After-line_end-end in
    more_stops _ _ _ _ _ c.loop-answers.invariant (omega (arith, end at))

pub returns-in-Err-answer_line : goal.returns-in-Err-answer_line
returns-in-Err-answer_line c =
    let at = (goal.at.returns-in-Err-answer_line c).After-line_end-end in
    let asked = c.in-Err-answer_line.ensures in
    let says = says_use (reading (line at)) (sym (keyed-line at) ∙ rw asked.0 at c.in-Ok.is) in
    rw (end at, asked.1) (use_stops _ _ _ _ _ c.loop-answers.invariant _ (omega (arith, end at)) (omega arith) says)

pub loop-answers-preserved-in-Err : goal.loop-answers-preserved-in-Err
loop-answers-preserved-in-Err c =
    let at = (goal.at.loop-answers-preserved-in-Err c).After-line_end-end in
    let says = says_bad (reading (line at)) (sym (keyed-line at) ∙ c.in-Err.is) in
    let w = c.say_bad.ensures in
    rw (end at) (one_done _ _ _ _ _ c.loop-answers.invariant (omega (arith, end at)) (λ folder s h. rw says (w, h)) w.long
    (omega (arith, w.place, said_short (answer.Bad c.in-Err.column))))

pub loop-answers-preserved : goal.loop-answers-preserved
loop-answers-preserved c =
    let at = (goal.at.loop-answers-preserved c).After-line_end-end in
    let replied = c.in-Ok-answer_line.ensures in
    let says = sym (keyed-line at) ∙ c.in-Ok.is in
    let w = c.say.ensures in
    rw (end at) (one_done _ _ _ _ _ c.loop-answers.invariant (omega (arith, end at))
    (λ folder s h.
    let a = replied.1 folder s (reading (line at)) h says (asks (line at) says replied.0) in
    (rw (← a.0) w, a.1))
    w.long (omega (arith, w.place, said_short c.in-Ok-answer_line.answer)))

pub returns : goal.returns
returns c = full_stops _ _ _ _ _ c.loop-answers.invariant (omega arith)
