use Rattle.std.proofs.Common.{◌≡◌, ℕ, true, false, List, [], inl, inr, refl, sym, ◌∙◌, subst}
use Rattle.zmtp_wire.specs.Message.{message_octets}
use Rattle.zmtp_peer.specs.Events.{Event}
use Rattle.zmtp_peer.specs.Reading.{Stands}
use Rattle.zmtp_peer.specs.Subscriptions.{IsWanted}
use Rattle.exact_write.specs.Sent.{SentSome}
use Rattle.kernel_session.specs.Closing.{IsShown}
use Rattle.exact_write.proofs.SendLemmas.{appends_none}
use Rattle.kernel_session.proofs.RequestLemmas.{on_err}
use Rattle.kernel_session.proofs.connection.show.Goals as goal

pub returns-then-wants-clause-err : goal.returns-then-wants-clause-err
returns-then-wants-clause-err g c =
    let old = g.W.Write.contents c.args.writer.now in
    let new = g.W.Write.contents c.send_broadcast.new.writer in
    on_err c.send_broadcast.result (SentSome old new (message_octets c.args.broadcast.now))
    ((fed : List ℕ) (given : List Event) → Stands fed given c.args.peer.now → (octets : List ℕ) × IsShown given c.args.broadcast.now octets ×
    SentSome old new octets)
    (λ p fed given st. (
      message_octets c.args.broadcast.now,
      inl (subst (λ (x : List ℕ). IsWanted given x) c.topic.ensures ((c.wants.ensures fed given st).0 c.if-wants.true), refl),
      p,
    ))
    c.send_broadcast.ensures.err

pub returns-clause-ok : goal.returns-clause-ok
returns-clause-ok g c fed given st = (
  [],
  inr (
    λ w.
        let t : c.wants.result ≡ true = (c.wants.ensures fed given st).1 (subst (λ (x : List ℕ). IsWanted given x) (sym c.topic.ensures) w) in
        let f : true ≡ false = sym t ∙ c.if-wants.false in cc,
    refl,
  ),
  appends_none (g.W.Write.contents c.args.writer.now),
)
