-- The loop of `read_full`: what was read is within the room, which keeps its length. The measure is what is left of the room.
use Rattle.std.proofs.Common.{length, ◌≡◌, ◌-◌, ◌≤◌}
use Rattle.sessions.proofs.read_full.Given as goal

abbrev pub invariant-loop-length : goal.invariant-loop-length
invariant-loop-length g l = (l.length ≤ length l.room) × (length l.room ≡ length l.initial.room)

abbrev pub decreases-loop-length : goal.decreases-loop-length
decreases-loop-length g l = length l.room - l.length
