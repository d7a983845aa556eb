use Rattle.std.proofs.Common.{ℕ, List, take}
use Rattle.std.specs.Io.KnownBytes.{Appends}
use Rattle.zmtp_peer.specs.Events.{Event}
use Rattle.zmtp_peer.specs.Reading.{Stands}
use Rattle.kernel_session.specs.Closing.{AreShown}
use Rattle.kernel_session.proofs.connection.show_all.Given as goal

abbrev pub invariant-loop-broadcast : goal.invariant-loop-broadcast
invariant-loop-broadcast g l =
    (fed : List ℕ) (given : List Event) → Stands fed given l.peer
    → (octets : List ℕ) × AreShown given (take l.broadcast-index l.broadcasts) octets
    × Appends (g.W.Write.contents l.fn.writer) (g.W.Write.contents l.writer) octets
