use Rattle.std.proofs.Common.{List, ℕ, sym, ap, ◌∙◌, subst, string_bytes}
use Rattle.std.specs.Str.{bytes_eq}
use Rattle.kernel_reply.specs.Comms.{target as undo_target}
use Rattle.kernel_session.specs.Question.{IsOpen}
use Rattle.kernel_session.specs.Talk.{IsHeld, ask, open_then_ask}
use Rattle.kernel_session.proofs.TalkLemmas.{heard_answer, heard_change, target_held, other_held}
use Rattle.kernel_session.proofs.talk.open_comm.Goals as goal

pub returns-clause-ok : goal.returns-clause-ok
returns-clause-ok g c =
    let r = c.args.request.now in
    let p = c.ask.ensures in (
      heard_answer p.0,
      other_held g.D.Desk.leads c.args.desk.now c.ask.new.desk (string_bytes r.target_name) (string_bytes r.comm_id) p.0 c.ask.result
          (ap (λ (t : List ℕ). bytes_eq t undo_target) (sym c.as_str.ensures.value) ∙ sym c.is_undo_target.ensures ∙ c.if-is_undo_target.false)
          (subst (λ (t : List ℕ). IsHeld g.D.Desk.leads c.args.desk.now (ask (IsOpen t) p.0) c.ask.result c.ask.new.desk) c.as_str-id.ensures.value p.1),
    )

pub returns-then-is_undo_target-clause-ok : goal.returns-then-is_undo_target-clause-ok
returns-then-is_undo_target-clause-ok g c =
    let r = c.args.request.now in
    let p = c.open_then_ask.ensures in (
      heard_change p.0 p.1,
      target_held g.D.Desk.leads c.args.desk.now c.open_then_ask.new.desk (string_bytes r.target_name) (string_bytes r.comm_id) p.0 p.1 c.open_then_ask.result
          (ap (λ (t : List ℕ). bytes_eq t undo_target) (sym c.as_str.ensures.value) ∙ sym c.is_undo_target.ensures ∙ c.if-is_undo_target.true)
          (subst (λ (t : List ℕ). IsHeld g.D.Desk.leads c.args.desk.now (open_then_ask t p.0 p.1) c.open_then_ask.result c.open_then_ask.new.desk)
          c.in_ok-kept.ensures.cases p.2),
    )

pub open_then_ask-requires : goal.open_then_ask-requires
open_then_ask-requires g c = c.as_str-id.ensures.value ∙ sym c.in_ok-kept.ensures.cases
