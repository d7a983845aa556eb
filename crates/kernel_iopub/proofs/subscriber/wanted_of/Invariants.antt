use Rattle.std.proofs.Common.{ℕ, List, take}
use Rattle.zmtp_peer.specs.Events.{Event}
use Rattle.zmtp_peer.specs.Reading.{Stands}
use Rattle.kernel_iopub.specs.Round.{AreWanted}
use Rattle.kernel_iopub.proofs.subscriber.wanted_of.Given as goal

abbrev pub invariant-loop-broadcast : goal.invariant-loop-broadcast
invariant-loop-broadcast l =
    (fed : List ℕ) (given : List Event) → Stands fed given l.peer → AreWanted given (take l.broadcast-index l.broadcasts) l.kept.items
