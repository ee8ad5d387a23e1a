-- `after_word` meets its contract. Assumes nothing.
use Rattle.std.proofs.Common.{sym, ◌∙◌, ap, Ok, ◌+◌, arith}
use Rattle.lines.proofs.Laws.Word.{text_on, text_off, text_short, text_done}
use Rattle.lines.proofs.text.after_word.Goals.{in_default-via-in-Some+else-byte-expected, in_default-via-in_default}
use Rattle.lines.proofs.text.after_word.Goals as goal

pub returns-in_default : goal.returns-in_default
returns-in_default c =
    elim c.in_default.branch [
      | in_default-via-in-Some+else-byte-expected w ↦
          let h = w.in-Some.ensures.lookup.3 in
          sym (text_off _ _ _ _ c.loop-i-test.true h.0 λ e. w.if-byte-expected.false (h.1 0 ∙ e)) ∙ c.loop-i.invariant.same
      | in_default-via-in_default w ↦
          sym (text_short _ _ _ _ c.loop-i-test.true w.in_default.ensures.lookup.3) ∙ c.loop-i.invariant.same
    ]

pub loop-i-preserved : goal.loop-i-preserved
loop-i-preserved c =
    let h = c.in-Some.ensures.lookup.3 in
    record {
      same = sym (text_on _ _ _ _ c.loop-i-test.true h.0 (sym (h.1 0) ∙ c.if-byte-expected.true)) ∙ c.loop-i.invariant.same;
      among = λ _. omega (arith, h.0);
    }

pub returns : goal.returns
returns c =
    let a = c.args in
    ap (λ i. Ok (a.from + i)) (omega arith) ∙ sym (text_done a.word.now a.s.now a.from c.loop-i.i c.loop-i-test.false) ∙ c.loop-i.invariant.same
