use Rattle.std.proofs.Common.{◌≡◌, ℕ, List, [], ◌∷◌, ap, ◌∙◌, subst}
use Rattle.jupyter_msg.specs.Octets.{Octets}
use Rattle.jupyter_msg.specs.Message.{frames_of}
use Rattle.kernel_message.specs.Message.{broadcast_message}
use Rattle.kernel_reply.specs.Status.{busy}
use Rattle.kernel_session.specs.Call.{Published, Leads}
use Rattle.kernel_session.specs.Parts.{IsBegun, IsDatedAlone}
use Rattle.kernel_session.proofs.RequestLemmas.{on_ok, on_err}
use Rattle.kernel_session.proofs.request.begin.Goals as goal

pub returns-clause-ok : goal.returns-clause-ok
returns-clause-ok g c =
    let key = c.args.key.now in
    on_ok c.publish_awake.result
    (Leads g.D.Desk.leads c.date.new.self (Published (frames_of key c.in-Ok.busy) ∷ []) c.publish_awake.new.desk)
    (IsBegun g.D.Desk.leads c.args.desk.now c.publish_awake.new.desk key c.args.request.now.header.items c.args.stamp.now c.opening_by_header.new.stamp)
    (λ p. record {
      dated = c.date.new.stamp;
      is_dated = c.date.ensures.dated;
      called = (
        c.date.new.self,
        c.date.ensures.leads,
        subst (λ (o : Octets). Leads g.D.Desk.leads c.date.new.self (Published (frames_of key o) ∷ []) c.publish_awake.new.desk)
            (c.in-Ok.ensures.sent ∙ ap (λ (h : List ℕ). broadcast_message h c.date.new.stamp c.date.new.stamp.next busy) c.deref.ensures.value) p,
      );
      moved = c.in-Ok.ensures.next;
    })
    c.publish_awake.ensures.ok

pub returns-clause-err : goal.returns-clause-err
returns-clause-err g c =
    on_err c.publish_awake.result (c.publish_awake.new.desk ≡ c.date.new.self)
    (IsDatedAlone g.D.Desk.leads c.args.desk.now c.publish_awake.new.desk c.args.stamp.now)
    (λ p. record {
      dated = c.date.new.stamp;
      is_dated = c.date.ensures.dated;
      called = (c.date.new.self, c.date.ensures.leads, p);
    })
    c.publish_awake.ensures.err
