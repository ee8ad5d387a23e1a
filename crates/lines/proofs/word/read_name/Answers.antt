-- `read_name` meets its contract. Assumes nothing.
use Rattle.std.proofs.Common.{◌≡◌, refl, sym, ◌∙◌, List, ◌∷◌, ℕ, ◌+◌, ◌-◌, ◌*◌, ◌<◌, ◌≤◌, get_or, drop, length, Some, None, Ok, Err, arith}
use lib.Dec.{lit<}
use Rattle.lines.specs.Spell.{capital, in_name}
use Rattle.lines.specs.Line.{name}
use Rattle.lines.specs.Key.{key_after, letter}
use Rattle.lines.specs.Inside.{figure, word_from}
use Rattle.lines.proofs.Laws.Byte.{figure_is, figure_none, figure_capital, not_capital}
use Rattle.lines.proofs.Laws.Place.{among, passes, fails, first_stops, halts, hands, moved}
use Rattle.lines.proofs.Laws.Loop.{characters, headed, headed_by, Gathers, Gathered, room_left, gathers_more, gathered_all, gathered_here}
use Rattle.lines.proofs.word.read_name.Goals.{In-Some-figure}
use Rattle.lines.proofs.word.read_name.Goals as goal

module _ (s : List ℕ) (from b : ℕ) (is : b ≡ get_or s from 10) where
  -- no name begins with a byte that is no capital
  none : ((d : ℕ) → Some d ≡ figure b → 26 < d) → Err from ≡ word_from from (name (drop from s))
  unfolding name
  none n = halts _ (first_stops _ (fails capital s from is refl (not_capital b n)))

  -- a capital stands among the bytes
  inside : {d : ℕ} → Some d ≡ figure b → d ≤ 26 → from < length s
  inside f h = among capital s from is refl (figure_capital b f h)

  -- a capital and what the loop comes to are one
  whole : {d key at : ℕ} → Some d ≡ figure b → d ≤ 26 → Gathered in_name key_after s d (from + 1) 11 key at
      → Ok (record { value = key; at = at }) ≡ word_from from (name (drop from s))
  unfolding name
  whole {d} f h g =
      let q : d ≡ letter b = (figure_is b f).1 in
      rw (g.value, q, ← headed_by characters b)
      (hands _ (moved (sym g.place) (headed capital in_name (λ b. 11) ◌∷◌ (passes capital s from is refl (figure_capital b f h)))))

pub returns-in_default : goal.returns-in_default
returns-in_default c = none _ _ _ c.byte_at.ensures λ d e.
    let never : None ≡ Some d = c.in_default.ensures ∙ sym e in
    absurd cc

pub returns-then-first-gt-LAST_CAPITAL : goal.returns-then-first-gt-LAST_CAPITAL
returns-then-first-gt-LAST_CAPITAL c = none _ _ _ c.byte_at.ensures λ d e.
    let same : Some d ≡ Some c.in-Some.first = e ∙ sym c.in-Some.ensures in
    let is : d ≡ c.in-Some.first = cc in
    rw is c.if-first-gt-LAST_CAPITAL.true

-- one more character
more : (c : In-Some-figure) → (
    let end = c.args.from + 1 + 11 in
    Gathers in_name 38 key_after c.args.s.now 12 c.in-Some.first (c.args.from + 1) 11 (38 * c.loop-at.key + c.in-Some-figure.next) (c.loop-at.at + 1)
    (end - (c.loop-at.at + 1))
    )
more c =
    let f = figure_is c.byte_at-in-loop-at.result c.in-Some-figure.ensures in
    rw f.1 (gathers_more characters c.loop-at.invariant (omega arith) c.byte_at-in-loop-at.ensures f.0)

pub loop-at-preserved : goal.loop-at-preserved
loop-at-preserved c = more c

pub overflow_mul-key : goal.overflow_mul-key
overflow_mul-key c = omega (arith, room_left characters (lit< tt) (more c))

pub overflow_add-key : goal.overflow_add-key
overflow_add-key c = omega (arith, room_left characters (lit< tt) (more c))

pub returns-in_default-figure : goal.returns-in_default-figure
returns-in_default-figure c =
    whole _ _ _ c.byte_at.ensures c.in-Some.ensures c.if-first-gt-LAST_CAPITAL.false
    (gathered_here characters c.loop-at.invariant c.byte_at-in-loop-at.ensures (figure_none c.byte_at-in-loop-at.result c.in_default-figure.ensures))

pub returns : goal.returns
returns c =
    let there : c.args.from < length c.args.s.now = inside _ _ _ c.byte_at.ensures c.in-Some.ensures c.if-first-gt-LAST_CAPITAL.false in
    let end : c.min-end.result ≡ c.loop-at.at = omega arith in
    rw end (whole _ _ _ c.byte_at.ensures c.in-Some.ensures c.if-first-gt-LAST_CAPITAL.false (gathered_all characters c.loop-at.invariant (omega arith)))
