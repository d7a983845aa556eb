use Rattle.std.proofs.Common.{List, [], sym, subst}
use Rattle.zmtp_peer.specs.declared.event.PeerEvent.{PeerEvent}
use Rattle.zmtp_peer.specs.Events.{events_of}
use Rattle.zmtp_peer.specs.Reading.{Brings}
use Rattle.kernel_session.specs.declared.flow.Flow.{Flow}
use Rattle.kernel_session.specs.Session.{going}
use Rattle.kernel_session.specs.Ends.{comes_to}
use Rattle.kernel_session.proofs.PieceLemmas.{quiet_on, calm_on, stops_first, stops_midway, stops_behind}
use Rattle.kernel_session.proofs.connection.advance.Goals as goal

pub returns-in-Err-clause-err : goal.returns-in-Err-clause-err
returns-in-Err-clause-err g c =
    stops_first g.W.Write.contents g.D.Desk.leads g.V.Watcher.notices c.args.socket c.args.key.now c.args.stamp.now c.args.stamp.now
    c.args.writer.now c.args.desk.now
    c.args.watcher.now c.args.peer.now c.feed.new.self c.args.piece.now
    c.in-Err.fault c.stop.result c.in-Err.ensures.memory c.in-Err.ensures.fault c.stop.ensures

pub returns-in-Err-take_all-clause-err : goal.returns-in-Err-take_all-clause-err
returns-in-Err-take_all-clause-err g c =
    let brings = subst (λ (x : List PeerEvent). Brings c.args.peer.now c.args.piece.now (events_of x) c.feed.new.self) (sym c.deref_mut.ensures.value)
    c.in-Ok.ensures.events in
    stops_midway g.W.Write.contents g.D.Desk.leads g.V.Watcher.notices c.args.socket c.args.key.now c.args.stamp.now c.take_all.new.stamp
    c.args.writer.now c.take_all.new.writer
    c.args.desk.now c.take_all.new.desk c.args.watcher.now c.take_all.new.watcher
    c.args.peer.now c.feed.new.self c.args.piece.now (events_of c.deref_mut.result.now) c.in-Err-take_all.fault c.in-Err-take_all.ensures.midway brings
    c.in-Err-take_all.ensures.err

pub returns-in-Ok-feed-clause-ok : goal.returns-in-Ok-feed-clause-ok
returns-in-Ok-feed-clause-ok g c =
    let es = events_of c.deref_mut.result.now in
    let brings = subst (λ (x : List PeerEvent). Brings c.args.peer.now c.args.piece.now (events_of x) c.feed.new.self) (sym c.deref_mut.ensures.value)
    c.in-Ok.ensures.events in (
      es,
      quiet_on c.octets_have_one_reading_law.ensures c.args.peer.now c.feed.new.self c.feed-2.new.self c.args.piece.now es
          (events_of c.in-Ok-feed.field-0.items) c.in-Ok-feed.ensures.role brings c.in-Ok-feed.ensures.events,
      subst (λ (f : Flow). comes_to g.W.Write.contents g.D.Desk.leads g.V.Watcher.notices c.args.socket c.args.key.now []
          c.args.writer.now c.take_all.new.writer c.args.desk.now
          c.take_all.new.desk c.args.watcher.now c.take_all.new.watcher
          (going c.args.stamp.now) c.take_all.new.stamp f es) c.in-Going.is c.in-Ok-take_all.ensures.ok,
    )

pub returns-in-Ok-feed-clause-quiet : goal.returns-in-Ok-feed-clause-quiet
returns-in-Ok-feed-clause-quiet g c on fed given st =
    let es = events_of c.deref_mut.result.now in
    let brings = subst (λ (x : List PeerEvent). Brings c.args.peer.now c.args.piece.now (events_of x) c.feed.new.self) (sym c.deref_mut.ensures.value)
    c.in-Ok.ensures.events in
    calm_on c.octets_have_one_reading_law.ensures c.args.peer.now c.feed.new.self c.feed-2.new.self c.args.piece.now es
    (events_of c.in-Ok-feed.field-0.items) c.in-Ok-feed.ensures.role brings c.in-Ok-feed.ensures.events c.in-Ok-feed.ensures.quiet fed given st

pub returns-clause-err : goal.returns-clause-err
returns-clause-err g c =
    let es = events_of c.deref_mut.result.now in
    let brings = subst (λ (x : List PeerEvent). Brings c.args.peer.now c.args.piece.now (events_of x) c.feed.new.self) (sym c.deref_mut.ensures.value)
    c.in-Ok.ensures.events in
    stops_behind g.W.Write.contents g.D.Desk.leads g.V.Watcher.notices c.args.socket c.args.key.now c.args.stamp.now c.take_all.new.stamp
    c.args.writer.now c.take_all.new.writer
    c.args.desk.now c.take_all.new.desk c.args.watcher.now c.take_all.new.watcher
    c.args.peer.now c.feed.new.self c.feed-2.new.self c.args.piece.now es c.in-Err-feed.fault c.stop-in-Err-feed.result c.in-Ok-take_all.flow c.in-Going.is
    brings
    c.in-Ok-take_all.ensures.ok c.in-Err-feed.ensures.memory c.in-Err-feed.ensures.fault c.stop-in-Err-feed.ensures
