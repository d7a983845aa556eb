use Rattle.std.proofs.Common.{◌≡◌, ℕ, List, Option, sym, ◌∙◌, subst, arith}
use Rattle.jupyter_msg.specs.declared.request.Request.{Request}
use Rattle.kernel_session.specs.declared.talk.DeskReply.{DeskReply}
use Rattle.kernel_session.specs.Action.{Action, Acts}
use Rattle.kernel_session.specs.Parts.{IsTakenUp, ActedPart, HasHandedOn}
use Rattle.kernel_session.proofs.HandedOn.{answered_alike, stamp_alike}
use Rattle.kernel_session.proofs.RequestLemmas.{on_fail, ServesPart, request_whole, request_cut, request_starved, request_unasked}
use Rattle.kernel_session.proofs.request.take_request.Goals as goal

pub returns-in_err-consulted-clause-err : goal.returns-in_err-consulted-clause-err
returns-in_err-consulted-clause-err g c =
    on_fail c.from_residual.result
    (ServesPart g.W.Write.contents g.D.Desk.leads c.args.key.now c.args.writer.now c.args.writer.now c.args.desk.now c.args.desk.now c.take_up.new.desk
    c.args.request.now c.args.stamp.now c.args.stamp.now c.take_up.new.stamp)
    (request_unasked g.W.Write.contents g.D.Desk.leads c.args.key.now c.args.writer.now c.args.desk.now c.take_up.new.desk
    c.args.request.now c.args.stamp.now c.take_up.new.stamp (omega arith) c.in_err-consulted.ensures.err)

pub returns-in-None-clause-ok : goal.returns-in-None-clause-ok
returns-in-None-clause-ok g c =
    request_starved g.W.Write.contents g.D.Desk.leads c.args.key.now c.args.writer.now c.args.desk.now c.take_up.new.desk
    c.args.request.now c.args.stamp.now c.take_up.new.stamp (omega arith)
    (subst
    (λ (o : Option DeskReply).
    IsTakenUp g.D.Desk.leads c.args.desk.now c.take_up.new.desk c.args.key.now c.args.request.now c.args.stamp.now c.take_up.new.stamp o)
    c.in-None.is c.in_ok-consulted.ensures.ok)

-- the text that was handed on is that by which the answer is made
abbrev handed_by : (r r' : Request) (code text : List ℕ) → code ≡ text → HasHandedOn r.content r'.content text → HasHandedOn r.content r'.content code
handed_by r r' code text same handed = subst (λ (c : List ℕ). HasHandedOn r.content r'.content c) (sym same) handed

pub returns-in_err-finish-clause-err : goal.returns-in_err-finish-clause-err
returns-in_err-finish-clause-err g c =
    let r = c.args.request.now in
    let left = c.take_up.new.request in
    let code = c.code-code.result.now in
    let handed = handed_by r left code _ c.code-code.ensures c.in_ok-consulted.ensures.handed in
    on_fail c.from_residual-in_err-finish.result
    (ServesPart g.W.Write.contents g.D.Desk.leads c.args.key.now c.args.writer.now c.finish.new.writer c.args.desk.now c.take_up.new.desk c.finish.new.desk
    r c.args.stamp.now c.take_up.new.stamp c.finish.new.stamp)
    (request_cut g.W.Write.contents g.D.Desk.leads c.args.key.now c.args.writer.now c.finish.new.writer c.args.desk.now c.take_up.new.desk c.finish.new.desk
    r c.args.stamp.now c.take_up.new.stamp c.finish.new.stamp (omega arith) c.in-Some.told
    (subst (λ (o : Option DeskReply). IsTakenUp g.D.Desk.leads c.args.desk.now c.take_up.new.desk c.args.key.now r c.args.stamp.now c.take_up.new.stamp o)
    c.in-Some.is c.in_ok-consulted.ensures.ok)
    (subst
    (λ (actions : List Action). ActedPart g.W.Write.contents g.D.Desk.leads c.args.writer.now c.finish.new.writer c.take_up.new.desk c.finish.new.desk actions)
    (answered_alike r left code c.in_ok-consulted.ensures.asker handed c.in-Some.told c.take_up.new.stamp c.args.key.now) c.in_err-finish.ensures.err))

pub returns-clause-ok : goal.returns-clause-ok
returns-clause-ok g c =
    let r = c.args.request.now in
    let left = c.take_up.new.request in
    let code = c.code-code.result.now in
    let handed = handed_by r left code _ c.code-code.ensures c.in_ok-consulted.ensures.handed in
    request_whole g.W.Write.contents g.D.Desk.leads c.args.key.now c.args.writer.now c.finish.new.writer c.args.desk.now c.take_up.new.desk c.finish.new.desk
    r c.args.stamp.now c.take_up.new.stamp c.finish.new.stamp (omega arith) c.in-Some.told
    (subst (λ (o : Option DeskReply). IsTakenUp g.D.Desk.leads c.args.desk.now c.take_up.new.desk c.args.key.now r c.args.stamp.now c.take_up.new.stamp o)
    c.in-Some.is c.in_ok-consulted.ensures.ok)
    (subst
    (λ (actions : List Action). Acts g.W.Write.contents g.D.Desk.leads c.args.writer.now c.finish.new.writer c.take_up.new.desk c.finish.new.desk actions)
    (answered_alike r left code c.in_ok-consulted.ensures.asker handed c.in-Some.told c.take_up.new.stamp c.args.key.now) c.in_ok-finish.ensures.ok)
    (stamp_alike r left code c.in_ok-consulted.ensures.asker handed c.in-Some.told c.take_up.new.stamp c.finish.new.stamp c.in_ok-finish.ensures.stamp)
    c.flow_after.result (c.flow_after.ensures ∙ handed.ends)
