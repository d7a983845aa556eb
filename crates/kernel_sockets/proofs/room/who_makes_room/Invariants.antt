use Rattle.kernel_sockets.specs.Room.{MakesRoomAmong}
use Rattle.kernel_sockets.proofs.room.who_makes_room.Given as goal

abbrev pub invariant-loop-place : goal.invariant-loop-place
invariant-loop-place l = MakesRoomAmong l.stays l.now l.sights l.place l.found
