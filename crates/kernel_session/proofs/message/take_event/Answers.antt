use Rattle.std.proofs.Common.{[], ◌∷◌, refl, ap, subst, IfOk, OnErr, ◌≡◌}
use Rattle.std.specs.Io.KnownBytes.{Appends}
use Rattle.jupyter_msg.specs.Octets.{octets}
use Rattle.zmtp_wire.specs.Message.{message_octets}
use Rattle.zmtp_wire.specs.Pong.{pong_octets}
use Rattle.zmtp_peer.specs.declared.event.PeerEvent.TheVariants.{Message, Ping, Ready}
use Rattle.kernel_session.specs.declared.socket.Socket.TheVariants.{Shell, Control, Heartbeat}
use Rattle.kernel_session.specs.declared.flow.Flow.{Flow}
use Rattle.kernel_session.specs.declared.flow.Flow.TheVariants.{Going}
use Rattle.kernel_watch.specs.declared.notice.Notice.TheVariants as notice
use Rattle.kernel_watch.specs.Hears.{Hears}
use Rattle.kernel_watch.specs.Pings.{answers}
use Rattle.kernel_session.specs.Action.{tells}
use Rattle.kernel_session.proofs.ActsLemmas.{told_one}
use Rattle.kernel_session.proofs.SessionLemmas.{takes_event}
use Rattle.exact_write.specs.Sent.{SentSome}
use Rattle.kernel_session.proofs.EventLemmas.{turn_takes, turn_breaks, sent_takes, sent_breaks}
use Rattle.kernel_session.proofs.message.take_event.Goals as goal

pub returns-in-Shell-clause-ok : goal.returns-in-Shell-clause-ok
returns-in-Shell-clause-ok g c =
    turn_takes g.W.Write.contents g.D.Desk.leads g.V.Watcher.notices c.args.key.now c.args.writer.now c.take_turn.new.writer c.args.desk.now
    c.take_turn.new.desk
    c.args.stamp.now c.take_turn.new.stamp Shell (octets c.in-Message.frames.items) c.args.watcher.now c.take_turn.new.watcher c.args.socket c.in-Shell.is
    c.args.event
    (Message c.in-Message.frames) c.in-Message.is (λ actions new p. p) c.take_turn.result c.take_turn.ensures.ok

pub returns-in-Shell-clause-err : goal.returns-in-Shell-clause-err
returns-in-Shell-clause-err g c =
    turn_breaks g.W.Write.contents g.D.Desk.leads g.V.Watcher.notices c.args.key.now c.args.writer.now c.take_turn.new.writer c.args.desk.now
    c.take_turn.new.desk
    c.args.stamp.now c.take_turn.new.stamp Shell (octets c.in-Message.frames.items) c.args.watcher.now c.take_turn.new.watcher c.args.socket c.in-Shell.is
    c.args.event
    (Message c.in-Message.frames) c.in-Message.is (λ actions new p. p) c.take_turn.result c.take_turn.ensures.err

pub returns-in-Control-clause-ok : goal.returns-in-Control-clause-ok
returns-in-Control-clause-ok g c =
    turn_takes g.W.Write.contents g.D.Desk.leads g.V.Watcher.notices c.args.key.now c.args.writer.now c.take_turn-in-Control.new.writer c.args.desk.now
    c.take_turn-in-Control.new.desk
    c.args.stamp.now c.take_turn-in-Control.new.stamp Control (octets c.in-Message.frames.items) c.args.watcher.now
    c.take_turn-in-Control.new.watcher c.args.socket c.in-Control.is c.args.event
    (Message c.in-Message.frames) c.in-Message.is (λ actions new p. p) c.take_turn-in-Control.result c.take_turn-in-Control.ensures.ok

pub returns-in-Control-clause-err : goal.returns-in-Control-clause-err
returns-in-Control-clause-err g c =
    turn_breaks g.W.Write.contents g.D.Desk.leads g.V.Watcher.notices c.args.key.now c.args.writer.now c.take_turn-in-Control.new.writer c.args.desk.now
    c.take_turn-in-Control.new.desk
    c.args.stamp.now c.take_turn-in-Control.new.stamp Control (octets c.in-Message.frames.items) c.args.watcher.now
    c.take_turn-in-Control.new.watcher c.args.socket c.in-Control.is c.args.event
    (Message c.in-Message.frames) c.in-Message.is (λ actions new p. p) c.take_turn-in-Control.result c.take_turn-in-Control.ensures.err

pub returns-in-Heartbeat-clause-ok : goal.returns-in-Heartbeat-clause-ok
returns-in-Heartbeat-clause-ok g c =
    sent_takes g.W.Write.contents g.D.Desk.leads g.V.Watcher.notices c.args.key.now c.args.writer.now c.echo.new.writer c.args.desk.now c.args.watcher.now
    c.echo.new.watcher c.args.stamp.now
    c.args.socket
    Heartbeat c.in-Heartbeat.is c.args.event (Message c.in-Message.frames) c.in-Message.is (message_octets (octets c.in-Message.frames.items)) notice.Echoed
    (refl, refl)
    c.echo.result
    (subst (λ x. IfOk c.echo.result (λ flow. (flow ≡ Going)
    × Appends (g.W.Write.contents c.args.writer.now) (g.W.Write.contents c.echo.new.writer) (message_octets (octets x))
    × Hears (g.V.Watcher.notices c.args.watcher.now) (g.V.Watcher.notices c.echo.new.watcher) (notice.Echoed ∷ [])))
    c.deref-in-Heartbeat.ensures.value c.echo.ensures.ok)

pub returns-in-Heartbeat-clause-err : goal.returns-in-Heartbeat-clause-err
returns-in-Heartbeat-clause-err g c =
    sent_breaks g.W.Write.contents g.D.Desk.leads g.V.Watcher.notices c.args.key.now c.args.writer.now c.echo.new.writer c.args.desk.now c.args.watcher.now
    c.echo.new.watcher c.args.stamp.now
    c.args.socket
    Heartbeat c.in-Heartbeat.is c.args.event (Message c.in-Message.frames) c.in-Message.is (message_octets (octets c.in-Message.frames.items)) notice.Echoed
    (refl, refl)
    c.echo.result
    (subst (λ x. OnErr c.echo.result (SentSome (g.W.Write.contents c.args.writer.now) (g.W.Write.contents c.echo.new.writer) (message_octets (octets x))
    × (c.echo.new.watcher ≡ c.args.watcher.now)))
    c.deref-in-Heartbeat.ensures.value c.echo.ensures.err)

pub returns-in-Ping-clause-ok : goal.returns-in-Ping-clause-ok
returns-in-Ping-clause-ok g c =
    sent_takes g.W.Write.contents g.D.Desk.leads g.V.Watcher.notices c.args.key.now c.args.writer.now c.pong.new.writer c.args.desk.now c.args.watcher.now
    c.pong.new.watcher c.args.stamp.now
    c.args.socket
    c.args.socket refl c.args.event (Ping c.in-Ping.context) c.in-Ping.is (pong_octets c.in-Ping.context.items) (answers c.in-Ping.context.items)
    (refl, refl) c.pong.result
    (subst (λ x. IfOk c.pong.result (λ flow. (flow ≡ Going)
    × Appends (g.W.Write.contents c.args.writer.now) (g.W.Write.contents c.pong.new.writer) (pong_octets x)
    × Hears (g.V.Watcher.notices c.args.watcher.now) (g.V.Watcher.notices c.pong.new.watcher) (answers x ∷ []))) c.deref.ensures.value c.pong.ensures.ok)

pub returns-in-Ping-clause-err : goal.returns-in-Ping-clause-err
returns-in-Ping-clause-err g c =
    sent_breaks g.W.Write.contents g.D.Desk.leads g.V.Watcher.notices c.args.key.now c.args.writer.now c.pong.new.writer c.args.desk.now c.args.watcher.now
    c.pong.new.watcher c.args.stamp.now
    c.args.socket
    c.args.socket refl c.args.event (Ping c.in-Ping.context) c.in-Ping.is (pong_octets c.in-Ping.context.items) (answers c.in-Ping.context.items)
    (refl, refl) c.pong.result
    (subst (λ x. OnErr c.pong.result (SentSome (g.W.Write.contents c.args.writer.now) (g.W.Write.contents c.pong.new.writer) (pong_octets x)
    × (c.pong.new.watcher ≡ c.args.watcher.now)))
    c.deref.ensures.value c.pong.ensures.err)

pub returns-in-Ready-clause-ok : goal.returns-in-Ready-clause-ok
returns-in-Ready-clause-ok g c =
    takes_event g.W.Write.contents g.D.Desk.leads g.V.Watcher.notices c.args.key.now c.args.writer.now c.args.writer.now c.args.desk.now c.args.desk.now
    c.args.watcher.now c.welcome.new.watcher c.args.stamp.now c.args.socket c.args.socket refl c.args.event Ready c.in-Ready.is (tells (notice.Ready ∷ []))
    (record { stamp = c.args.stamp.now; flow = c.welcome.result })
    (refl, ap (λ (f : Flow). record { stamp = c.args.stamp.now; flow = f }) c.welcome.ensures.flow)
    (told_one g.W.Write.contents g.D.Desk.leads g.V.Watcher.notices c.args.writer.now c.args.desk.now c.args.watcher.now c.welcome.new.watcher notice.Ready
    c.welcome.ensures.told)
