use Rattle.std.proofs.Common.{◌+◌, ◌<◌, length, List, [], ◌∷◌, ◌++◌, drop, refl, sym, ap, ◌∙◌, length-set, arith}
use Rattle.std.proofs.lemmas.List.{drop-set-lt}
use Rattle.zmtp_peer.specs.declared.event.PeerEvent.{PeerEvent}
use Rattle.zmtp_peer.specs.Events.{event_of, events_of}
use Rattle.kernel_session.specs.declared.flow.Flow.TheVariants.{Going}
use Rattle.kernel_session.specs.Session.{going}
use Rattle.kernel_session.proofs.ActsLemmas.{told_none}
use Rattle.kernel_session.proofs.SessionLemmas.{whole_none}
use Rattle.kernel_session.proofs.EventLemmas.{events_split, whole_next, over_next, cut_next}
use Rattle.kernel_session.proofs.message.take_all.Goals as goal

pub loop-i-init : goal.loop-i-init
loop-i-init g c = (
  [],
  whole_none g.W.Write.contents g.D.Desk.leads g.V.Watcher.notices c.args.socket c.args.key.now [] c.args.writer.now c.args.writer.now c.args.desk.now
      c.args.desk.now c.args.watcher.now c.args.watcher.now (going c.args.stamp.now)
      (told_none g.W.Write.contents g.D.Desk.leads g.V.Watcher.notices c.args.writer.now c.args.desk.now c.args.watcher.now),
  refl,
  refl,
)

pub loop-i-preserved : goal.loop-i-preserved
loop-i-preserved g c =
    let inv = c.loop-i.invariant in
    let all = c.loop-i.events in
    let i = c.loop-i.i in
    let same = inv.3 in
    let lt : i < length all = omega arith in
    let e = event_of c.replace-event.result in (
      inv.0 ++ e ∷ [],
      whole_next g.W.Write.contents g.D.Desk.leads g.V.Watcher.notices c.args.socket c.args.key.now c.args.writer.now c.loop-i.writer c.take_event.new.writer
          c.args.desk.now c.loop-i.desk c.take_event.new.desk c.args.watcher.now c.loop-i.watcher c.take_event.new.watcher (going c.args.stamp.now)
          c.loop-i.stamp c.take_event.new.stamp inv.0 e inv.1
          c.in-Ok.flow Going c.in-Going.is c.in-Ok.ensures.ok,
      ap (λ (x : List PeerEvent). (inv.0 ++ e ∷ []) ++ events_of x) (drop-set-lt (i + 1) all i c.replace-event.new.dest (omega arith))
          ∙ events_split all i _ c.index-events-i.result c.replace-event.result lt c.index-events-i.is (c.replace-event.ensures.value ∙ sym c.index-events-i.is)
          inv.0 (events_of c.args.events.now) inv.2,
      length-set all i c.replace-event.new.dest ∙ inv.3,
    )

pub returns-in_default-clause-ok : goal.returns-in_default-clause-ok
returns-in_default-clause-ok g c =
    let inv = c.loop-i.invariant in
    let all = c.loop-i.events in
    let i = c.loop-i.i in
    let same = inv.3 in
    let lt : i < length all = omega arith in
    over_next g.W.Write.contents g.D.Desk.leads g.V.Watcher.notices c.args.socket c.args.key.now c.args.writer.now c.loop-i.writer c.take_event.new.writer
    c.args.desk.now c.loop-i.desk c.take_event.new.desk c.args.watcher.now c.loop-i.watcher c.take_event.new.watcher (going c.args.stamp.now) c.loop-i.stamp
    c.take_event.new.stamp inv.0
    (event_of c.replace-event.result) inv.1 c.in-Ok.flow c.in_default.not-Going c.in-Ok.ensures.ok (events_of (drop (i + 1) all)) (events_of c.args.events.now)
    (events_split all i _ c.index-events-i.result c.replace-event.result lt c.index-events-i.is (c.replace-event.ensures.value ∙ sym c.index-events-i.is)
    inv.0 (events_of c.args.events.now) inv.2)

pub returns-in-Err-clause-err : goal.returns-in-Err-clause-err
returns-in-Err-clause-err g c =
    let inv = c.loop-i.invariant in
    let all = c.loop-i.events in
    let i = c.loop-i.i in
    let same = inv.3 in
    let lt : i < length all = omega arith in
    cut_next g.W.Write.contents g.D.Desk.leads g.V.Watcher.notices c.args.socket c.args.key.now c.args.writer.now c.loop-i.writer c.take_event.new.writer
    c.args.desk.now c.loop-i.desk c.take_event.new.desk c.args.watcher.now c.loop-i.watcher c.take_event.new.watcher (going c.args.stamp.now) c.loop-i.stamp
    c.take_event.new.stamp inv.0
    (event_of c.replace-event.result) inv.1 c.in-Err.ensures.err (events_of (drop (i + 1) all)) (events_of c.args.events.now)
    (events_split all i _ c.index-events-i.result c.replace-event.result lt c.index-events-i.is (c.replace-event.ensures.value ∙ sym c.index-events-i.is)
    inv.0 (events_of c.args.events.now) inv.2)
