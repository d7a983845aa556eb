use Rattle.std.proofs.Common.{◌≡◌, ℕ, List}
use Rattle.std.specs.Io.KnownBytes.{Consumes}
use Rattle.zmtp_peer.specs.Events.{Event}
use Rattle.zmtp_peer.specs.Opening.{opening_of}
use Rattle.zmtp_peer.specs.Reading.{Stands, Awaiting, ending_of}
use Rattle.kernel_session.specs.declared.flow.Flow.TheVariants.{Going}
use Rattle.kernel_session.specs.Action.{sends}
use Rattle.kernel_session.specs.Session.{going, role_of}
use Rattle.kernel_session.specs.Ends.{comes_to}
use Rattle.kernel_session.proofs.connection.serve.Given as goal

-- so far the octets read brought their whole session, and no fault
abbrev pub invariant-loop : goal.invariant-loop
invariant-loop g l =
    (input : List ℕ) × (given : List Event) × Consumes (g.R.Read.remaining l.fn.reader) (g.R.Read.remaining l.reader) input
    × Stands input given l.peer × (l.peer.role ≡ role_of l.socket) × (ending_of l.peer.state ≡ Awaiting)
    × comes_to g.W.Write.contents g.D.Desk.leads g.V.Watcher.notices l.socket l.key (sends (opening_of (role_of l.socket))) l.fn.writer l.writer
    l.fn.desk l.desk l.fn.watcher l.watcher (going l.fn.stamp) l.stamp Going given
