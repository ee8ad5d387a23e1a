-- `last_end` meets its contract. Assumes nothing.
use Rattle.std.proofs.Common.{◌≤◌, length, arith}
use lib.ListN.{drop_of_length-le}
use Rattle.lines.specs.Text.{first_line}
use Rattle.lines.proofs.Laws.Feed.{at_feed, past_byte}
use Rattle.lines.proofs.text.last_end.Goals as goal

pub returns-then-s-at-eq-LINE_FEED : goal.returns-then-s-at-eq-LINE_FEED
returns-then-s-at-eq-LINE_FEED c =
    omega (arith, c.loop-at.invariant.ends, at_feed c.args.s.now c.loop-at.at c.loop-at-test.true c.if-s-at-eq-LINE_FEED.true)

pub loop-at-preserved : goal.loop-at-preserved
loop-at-preserved c = record {
  ends = omega (arith, c.loop-at.invariant.ends, past_byte c.args.s.now c.loop-at.at c.loop-at-test.true c.if-s-at-eq-LINE_FEED.false);
  within = omega arith;
}

pub returns : goal.returns
unfolding first_line
returns c =
    let past : length c.args.s.now ≤ c.loop-at.at = c.loop-at-test.false in
    omega (arith, simp (drop_of_length-le c.args.s.now past) at c.loop-at.invariant.ends)
