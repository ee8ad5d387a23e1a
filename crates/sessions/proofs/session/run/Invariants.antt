-- The loop of `run`: what is read and what waits fit their rooms, the file in use lies within its own, the text that is left is not too long, and both rooms
-- keep their lengths.
use Rattle.std.proofs.Common.{◌≡◌, length, ◌≤◌}
use Rattle.shell.specs.Inside.{HasRead, Waits}
use Rattle.sessions.proofs.session.run.Given as goal

abbrev pub invariant-loop : goal.invariant-loop
invariant-loop g l =
    HasRead l.input
    × Waits l.answers
    × (length l.pieces.text.now ≤ 8192)
    × (l.length ≤ 62464)
    × (length l.file ≡ 62464)
    × (length l.spare ≡ 62464)
