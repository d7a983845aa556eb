-- Which place is relieved of its connection, so that another one is served beside it.
use Rattle.std.specs.Prelude.{Bool, not, ◌&&◌}
use Rattle.kernel_sockets.specs.declared.room.Sight.{Sight}

-- an orphan: a request of who showed the key is under way, the peer has hung up, and the place was not relieved of it yet
abbrev pub is_orphan : Sight → Bool
is_orphan s = s.is_taken && (s.is_trusted && (not s.is_resting && (s.has_hung_up && not s.is_relieved)))
