use Rattle.std.specs.Io.KnownBytes.{Appends}
use Rattle.jupyter_msg.specs.Octets.{Octets}
use Rattle.jupyter_msg.specs.Message.{frames_of}
use Rattle.kernel_message.specs.Message.{asker_of}
use Rattle.kernel_message.specs.Sent.{sent, sent_of}
use Rattle.exact_write.specs.Sent.{SentSome}
use Rattle.kernel_session.specs.Call.{Published}
use Rattle.kernel_session.specs.Action.{Acts}
use Rattle.kernel_session.specs.Talk.{says_with}
use Rattle.kernel_session.specs.Session.{answered, reply_octets}
use Rattle.kernel_session.specs.Parts.{ActedPart}
use Rattle.kernel_session.proofs.RequestLemmas.{on_ok, on_err, on_fail, none_done, out_whole, out_led, out_cut}
use Rattle.kernel_session.proofs.request.finish.Goals as goal

pub returns-in_err-out-clause-err : goal.returns-in_err-out-clause-err
returns-in_err-out-clause-err g c =
    let all = answered c.args.key.now c.args.request.now c.args.stamp.now (says_with c.args.request.now.content c.args.code.now c.args.told.now) in
    on_fail c.from_residual.result (ActedPart g.W.Write.contents g.D.Desk.leads c.args.writer.now c.args.writer.now c.args.desk.now c.args.desk.now all)
    (none_done g.W.Write.contents g.D.Desk.leads c.args.key.now c.args.writer.now c.args.desk.now all)

pub returns-in_err-publish_all-clause-err : goal.returns-in_err-publish_all-clause-err
returns-in_err-publish_all-clause-err g c =
    let says = says_with c.args.request.now.content c.args.code.now c.args.told.now in
    let all = answered c.args.key.now c.args.request.now c.args.stamp.now says in
    let f = λ (o : Octets). Published (frames_of c.args.key.now o) in
    on_fail c.from_residual-in_err-publish_all.result
    (ActedPart g.W.Write.contents g.D.Desk.leads c.args.writer.now c.args.writer.now c.args.desk.now c.publish_all.new.desk all)
    (out_led g.W.Write.contents g.D.Desk.leads c.args.key.now c.args.writer.now c.args.writer.now c.args.desk.now c.publish_all.new.desk
    (sent_of c.in_ok-out.out) (sent (asker_of c.args.request.now) c.args.stamp.now says) c.in_ok-out.ensures.sent
    (c.in_err-publish_all.ensures.err))

pub returns-clause-ok : goal.returns-clause-ok
returns-clause-ok g c =
    let says = says_with c.args.request.now.content c.args.code.now c.args.told.now in
    let all = answered c.args.key.now c.args.request.now c.args.stamp.now says in
    let f = λ (o : Octets). Published (frames_of c.args.key.now o) in
    on_ok c.send_reply.result
    (Appends (g.W.Write.contents c.args.writer.now) (g.W.Write.contents c.send_reply.new.writer) (reply_octets c.args.key.now (sent_of c.in_ok-out.out).reply))
    (Acts g.W.Write.contents g.D.Desk.leads c.args.writer.now c.send_reply.new.writer c.args.desk.now c.publish_all.new.desk all)
    (λ p. out_whole g.W.Write.contents g.D.Desk.leads c.args.key.now c.args.writer.now c.send_reply.new.writer c.args.desk.now c.publish_all.new.desk
    (sent_of c.in_ok-out.out) (sent (asker_of c.args.request.now) c.args.stamp.now says) c.in_ok-out.ensures.sent
    c.in_ok-publish_all.ensures.ok p)
    c.send_reply.ensures.ok

pub returns-clause-err : goal.returns-clause-err
returns-clause-err g c =
    let says = says_with c.args.request.now.content c.args.code.now c.args.told.now in
    let all = answered c.args.key.now c.args.request.now c.args.stamp.now says in
    let f = λ (o : Octets). Published (frames_of c.args.key.now o) in
    on_err c.send_reply.result
    (SentSome (g.W.Write.contents c.args.writer.now) (g.W.Write.contents c.send_reply.new.writer) (reply_octets c.args.key.now (sent_of c.in_ok-out.out).reply))
    (ActedPart g.W.Write.contents g.D.Desk.leads c.args.writer.now c.send_reply.new.writer c.args.desk.now c.publish_all.new.desk all)
    (λ p. out_cut g.W.Write.contents g.D.Desk.leads c.args.key.now c.args.writer.now c.send_reply.new.writer c.args.desk.now c.publish_all.new.desk
    (sent_of c.in_ok-out.out) (sent (asker_of c.args.request.now) c.args.stamp.now says) c.in_ok-out.ensures.sent
    c.in_ok-publish_all.ensures.ok p)
    c.send_reply.ensures.err
