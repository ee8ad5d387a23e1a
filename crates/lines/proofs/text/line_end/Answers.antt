-- `line_end` meets its contract: the line ends at one of the four bytes of a turn, or goes on past them. Assumes nothing.
use Rattle.std.proofs.Common.{◌≡◌, List, ℕ, ◌+◌, ◌*◌, ◌<◌, length, get_or, arith}
use Rattle.lines.specs.Text.{line_at}
use Rattle.lines.proofs.Laws.Feed.{at_feed, past_byte}
use Rattle.lines.proofs.text.line_end.Goals as goal

module _ (s : List ℕ) (at : ℕ) (among : at < length s) where
  -- the line ends at a line feed
  here : get_or s at 0 ≡ 10 → at + length (line_at s at) ≡ at
  here e = omega (arith, at_feed s at among e)

  -- and past another byte where the line at the next does
  past : (next : ℕ) → next ≡ at + 1 → (get_or s at 0 ≡ 10 → ⊥) → at + length (line_at s at) ≡ next + length (line_at s next)
  past next is n = rw is (omega (arith, past_byte s at among n))

pub returns-then-s-at-eq-LINE_FEED : goal.returns-then-s-at-eq-LINE_FEED
returns-then-s-at-eq-LINE_FEED c =
    let s = c.args.s.now in
    let at = c.args.from + 4 * c.loop-i.i in
    omega (arith, c.loop-i.invariant, here s at (omega arith) c.if-s-at-eq-LINE_FEED.true)

pub returns-then-s-at-eq-LINE_FEED-2 : goal.returns-then-s-at-eq-LINE_FEED-2
returns-then-s-at-eq-LINE_FEED-2 c =
    let s = c.args.s.now in
    let at = c.args.from + 4 * c.loop-i.i in
    let one = past s at (omega arith) (at + 1) (omega arith) c.if-s-at-eq-LINE_FEED.false in
    omega (arith, c.loop-i.invariant, one, here s (at + 1) (omega arith) c.if-s-at-eq-LINE_FEED-2.true)

pub returns-then-s-at-eq-LINE_FEED-3 : goal.returns-then-s-at-eq-LINE_FEED-3
returns-then-s-at-eq-LINE_FEED-3 c =
    let s = c.args.s.now in
    let at = c.args.from + 4 * c.loop-i.i in
    let one = past s at (omega arith) (at + 1) (omega arith) c.if-s-at-eq-LINE_FEED.false in
    let two = past s (at + 1) (omega arith) (at + 2) (omega arith) c.if-s-at-eq-LINE_FEED-2.false in
    omega (arith, c.loop-i.invariant, one, two, here s (at + 2) (omega arith) c.if-s-at-eq-LINE_FEED-3.true)

pub returns-then-s-at-eq-LINE_FEED-4 : goal.returns-then-s-at-eq-LINE_FEED-4
returns-then-s-at-eq-LINE_FEED-4 c =
    let s = c.args.s.now in
    let at = c.args.from + 4 * c.loop-i.i in
    let one = past s at (omega arith) (at + 1) (omega arith) c.if-s-at-eq-LINE_FEED.false in
    let two = past s (at + 1) (omega arith) (at + 2) (omega arith) c.if-s-at-eq-LINE_FEED-2.false in
    let three = past s (at + 2) (omega arith) (at + 3) (omega arith) c.if-s-at-eq-LINE_FEED-3.false in
    omega (arith, c.loop-i.invariant, one, two, three, here s (at + 3) (omega arith) c.if-s-at-eq-LINE_FEED-4.true)

pub loop-i-preserved : goal.loop-i-preserved
loop-i-preserved c =
    let s = c.args.s.now in
    let at = c.args.from + 4 * c.loop-i.i in
    let one = past s at (omega arith) (at + 1) (omega arith) c.if-s-at-eq-LINE_FEED.false in
    let two = past s (at + 1) (omega arith) (at + 2) (omega arith) c.if-s-at-eq-LINE_FEED-2.false in
    let three = past s (at + 2) (omega arith) (at + 3) (omega arith) c.if-s-at-eq-LINE_FEED-3.false in
    let four = past s (at + 3) (omega arith) (c.args.from + 4 * (c.loop-i.i + 1)) (omega arith) c.if-s-at-eq-LINE_FEED-4.false in
    omega (arith, c.loop-i.invariant, one, two, three, four)
