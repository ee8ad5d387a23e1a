-- The loop of `read_file`: what was read is within the room, which keeps its length. The measure is what is left of the room.
use Rattle.std.proofs.Common.{length as list_length, ◌≡◌, ◌-◌, ◌≤◌}
use Rattle.planshell.proofs.folder.read_file.Given as goal

abbrev pub invariant-loop-length : goal.invariant-loop-length
invariant-loop-length g l = (l.length ≤ list_length l.room) × (list_length l.room ≡ list_length l.initial.room)

abbrev pub decreases-loop-length : goal.decreases-loop-length
decreases-loop-length g l = list_length l.room - l.length
