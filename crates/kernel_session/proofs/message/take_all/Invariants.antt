use Rattle.std.proofs.Common.{◌≡◌, List, [], ◌++◌, drop, length}
use Rattle.zmtp_peer.specs.Events.{Event, events_of}
use Rattle.kernel_session.specs.Session.{going}
use Rattle.kernel_session.specs.Ends.{Whole}
use Rattle.kernel_session.proofs.message.take_all.Given as goal

-- the events so far brought their whole session, and those that are left are the others
abbrev pub invariant-loop-i : goal.invariant-loop-i
invariant-loop-i g l =
    (seen : List Event)
    × Whole g.W.Write.contents g.D.Desk.leads g.V.Watcher.notices l.socket l.key [] l.fn.writer l.writer l.fn.desk l.desk l.fn.watcher l.watcher
    (going l.fn.stamp) (going l.stamp) seen
    × (seen ++ events_of (drop l.i l.events) ≡ events_of l.fn.events) × (length l.events ≡ length l.fn.events)
