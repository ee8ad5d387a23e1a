-- The loop of `serve`: what is read and what waits fit their rooms, the file in use lies within its own, and both rooms keep their lengths.
use Rattle.std.proofs.Common.{◌≡◌, length, ◌≤◌}
use Rattle.shell.specs.Inside.{HasRead, Waits}
use Rattle.planshell.proofs.session.serve.Given as goal

abbrev pub invariant-loop : goal.invariant-loop
invariant-loop g l =
    HasRead l.input
    × Waits l.answers
    × (l.length ≤ 61441)
    × (length l.file ≡ 61441)
    × (length l.spare ≡ 61441)
