-- `Edge::under` meets its contract: where fx is 0 the line goes to the north, else fy is 0 and it goes to the east. Assumes nothing.
use mathlib.Core.Path.{refl, ◌∙◌}
use mathlib.Core.Logic.{inl, inr, ⊎_elim}
use native.Mathlib.Omega.{arith}
use Rattle.reading.proofs.Laws.Edge.{told_apart}
use Rattle.reading.proofs.edge.Edge.under.Goals.{then-place-eq0, else-place-eq0}
use Rattle.reading.proofs.edge.Edge.under.Goals as goal

pub nth-first-requires : goal.nth-first-requires
nth-first-requires c = rw c.words-words.ensures (omega arith, c.requires.sw)

pub word_at-requires : goal.word_at-requires
word_at-requires c =
    let w = c.requires in
    elim c.if-place-eq0.branch [
      | then-place-eq0 n ↦ rw (n.next-is, c.words-words.ensures) (omega arith, λ p. w.nw (omega (arith, n.if-place-eq0.true)))
      | else-place-eq0 e ↦ rw (e.next-is, c.words-words.ensures) (omega arith, λ p. w.se (omega (arith, e.if-place-eq0.false)))
    ]

pub returns : goal.returns
returns c =
    let word = c.word_at.ensures in
    let w = c.requires in
    let apart = told_apart _ _ _ refl word.1 in
    record {
      first = apart.0 ∙ (rw c.words-words.ensures at c.nth-first.ensures);
      next =
          elim c.if-place-eq0.branch [
            | then-place-eq0 n ↦ inl (n.if-place-eq0.true, apart.1 ∙ (rw (n.next-is, c.words-words.ensures) at word.0))
            | else-place-eq0 e ↦
                inr (⊎_elim (λ z. absurd (e.if-place-eq0.false z)) (λ z. z) w.line, apart.1 ∙ (rw (e.next-is, c.words-words.ensures) at word.0))
          ];
    }
