use Rattle.std.proofs.Common.{ℕ, List, [], ◌∷◌, Some, option_map, refl, ap, subst, string_bytes}
use Rattle.jupyter_msg.specs.Requests.{expressions_of}
use Rattle.jupyter_msg.specs.declared.request.RequestContent.TheVariants as request
use Rattle.kernel_reply.specs.Request.{RunCell}
use Rattle.kernel_session.specs.declared.talk.DeskReply.TheVariants.{Answered}
use Rattle.kernel_session.specs.Question.{Complete, Inspect, IsComplete}
use Rattle.kernel_session.specs.Call.{Rang, Shut}
use Rattle.kernel_session.specs.Talk.{IsHeld, ask, post, only, history, list_comms, open_comm, close_comm, follow, if_open}
use Rattle.kernel_session.proofs.TalkLemmas.{nobody, unasked, heard_answer, heard_change, held_kept, held_cell}
use Rattle.kernel_session.proofs.talk.consult.Goals as goal

pub returns-in-KernelInfo-clause-ok : goal.returns-in-KernelInfo-clause-ok
returns-in-KernelInfo-clause-ok g c =
    held_kept g.D.Desk.leads c.args.desk.now c.args.desk.now c.args.content.now request.KernelInfo c.in-KernelInfo.is
    (Some (Answered c.no_answer.result)) nobody (only []) refl
    (refl, ap (λ a. Some (Answered a)) c.no_answer.ensures)
    c.kept.result.told c.kept.ensures.told

pub returns-in-Execute-clause-ok : goal.returns-in-Execute-clause-ok
returns-in-Execute-clause-ok g c =
    let r = c.in-Execute.request in
    held_cell g.D.Desk.leads c.args.desk.now c.execute.new.desk c.args.content.now (request.Execute r) c.in-Execute.is
    (post (RunCell (string_bytes r.code) r.silent r.store_history) (expressions_of r.user_expressions.items)) (λ j a. refl)
    c.execute.result c.execute.ensures.ok

pub returns-in-Complete-clause-ok : goal.returns-in-Complete-clause-ok
returns-in-Complete-clause-ok g c =
    let r = c.in-Complete.request in
    let p = c.complete.ensures in
    held_kept g.D.Desk.leads c.args.desk.now c.complete.new.desk c.args.content.now (request.Complete r) c.in-Complete.is c.complete.result (heard_answer p.0)
    (ask (Complete (string_bytes r.code) r.cursor) p.0) refl p.1
    c.kept-in-Complete.result.told c.kept-in-Complete.ensures.told

pub returns-in-Inspect-clause-ok : goal.returns-in-Inspect-clause-ok
returns-in-Inspect-clause-ok g c =
    let r = c.in-Inspect.request in
    let p = c.inspect.ensures in
    held_kept g.D.Desk.leads c.args.desk.now c.inspect.new.desk c.args.content.now (request.Inspect r) c.in-Inspect.is c.inspect.result (heard_answer p.0)
    (ask (Inspect (string_bytes r.code) r.cursor) p.0) refl p.1
    c.kept-in-Inspect.result.told c.kept-in-Inspect.ensures.told

pub returns-in-IsComplete-clause-ok : goal.returns-in-IsComplete-clause-ok
returns-in-IsComplete-clause-ok g c =
    let r = c.in-IsComplete.request in
    let p = c.judge.ensures in
    held_kept g.D.Desk.leads c.args.desk.now c.judge.new.desk c.args.content.now (request.IsComplete r) c.in-IsComplete.is c.judge.result (heard_answer p.0)
    (ask (IsComplete (string_bytes r.code)) p.0) refl p.1
    c.kept-in-IsComplete.result.told c.kept-in-IsComplete.ensures.told

pub returns-in-History-clause-ok : goal.returns-in-History-clause-ok
returns-in-History-clause-ok g c =
    let r = c.in-History.request in
    let p = c.history.ensures in
    held_kept g.D.Desk.leads c.args.desk.now c.history.new.desk c.args.content.now (request.History r) c.in-History.is c.history.result (heard_answer p.0)
    (history r r.access p.0) refl p.1
    c.kept-in-History.result.told c.kept-in-History.ensures.told

pub returns-in-CommInfo-clause-ok : goal.returns-in-CommInfo-clause-ok
returns-in-CommInfo-clause-ok g c =
    let r = c.in-CommInfo.request in
    let p = c.list_comms.ensures in
    held_kept g.D.Desk.leads c.args.desk.now c.list_comms.new.desk c.args.content.now (request.CommInfo r) c.in-CommInfo.is c.list_comms.result
    (heard_answer p.0) (list_comms (option_map string_bytes r.target_name) p.0) refl
    (subst (λ t. IsHeld g.D.Desk.leads c.args.desk.now (list_comms t p.0) c.list_comms.result c.list_comms.new.desk) c.as_deref.ensures.value p.1)
    c.kept-in-CommInfo.result.told c.kept-in-CommInfo.ensures.told

pub returns-in-Interrupt-clause-ok : goal.returns-in-Interrupt-clause-ok
returns-in-Interrupt-clause-ok g c =
    held_kept g.D.Desk.leads c.args.desk.now c.interrupt.new.desk c.args.content.now request.Interrupt c.in-Interrupt.is c.interrupt.result nobody
    (only (Rang ∷ [])) refl c.interrupt.ensures
    c.kept-in-Interrupt.result.told c.kept-in-Interrupt.ensures.told

pub returns-in-Shutdown-clause-ok : goal.returns-in-Shutdown-clause-ok
returns-in-Shutdown-clause-ok g c =
    held_kept g.D.Desk.leads c.args.desk.now c.shut.new.desk c.args.content.now (request.Shutdown c.in-Shutdown.field-0) c.in-Shutdown.is c.shut.result nobody
    (only (Shut ∷ Rang ∷ [])) refl c.shut.ensures
    c.kept-in-Shutdown.result.told c.kept-in-Shutdown.ensures.told

pub returns-in_ok-open_comm-in-CommOpen-clause-ok : goal.returns-in_ok-open_comm-in-CommOpen-clause-ok
returns-in_ok-open_comm-in-CommOpen-clause-ok g c =
    let r = c.in-CommOpen.request in
    let p = c.in_ok-open_comm-in-CommOpen.ensures.ok in
    held_kept g.D.Desk.leads c.args.desk.now c.open_comm.new.desk c.args.content.now (request.CommOpen r) c.in-CommOpen.is
    _ p.0 (open_comm (string_bytes r.target_name) (string_bytes r.comm_id) p.0) refl p.1
    c.kept-in-CommOpen.result.told c.kept-in-CommOpen.ensures.told

pub returns-in-CommMessage-clause-ok : goal.returns-in-CommMessage-clause-ok
returns-in-CommMessage-clause-ok g c =
    let r = c.in-CommMessage.request in
    let p = c.on_comm.ensures in
    held_kept g.D.Desk.leads c.args.desk.now c.on_comm.new.desk c.args.content.now (request.CommMessage r) c.in-CommMessage.is c.on_comm.result p.0
    (if_open (string_bytes r.comm_id) p.0.comm (follow r.ask p.0)) refl
    (subst (λ (id : List ℕ). IsHeld g.D.Desk.leads c.args.desk.now (if_open id p.0.comm (follow r.ask p.0)) c.on_comm.result c.on_comm.new.desk)
    c.as_str.ensures.value p.1)
    c.kept-in-CommMessage.result.told c.kept-in-CommMessage.ensures.told

pub returns-in-CommClose-clause-ok : goal.returns-in-CommClose-clause-ok
returns-in-CommClose-clause-ok g c =
    let r = c.in-CommClose.request in
    let p = c.close_comm.ensures in
    held_kept g.D.Desk.leads c.args.desk.now c.close_comm.new.desk c.args.content.now (request.CommClose r) c.in-CommClose.is c.close_comm.result
    (heard_change p.0 unasked) (close_comm (string_bytes r.comm_id) p.0) refl
    (subst (λ (id : List ℕ). IsHeld g.D.Desk.leads c.args.desk.now (close_comm id p.0) c.close_comm.result c.close_comm.new.desk)
    c.as_str-in-CommClose.ensures.value p.1)
    c.kept-in-CommClose.result.told c.kept-in-CommClose.ensures.told
