use Rattle.std.proofs.Common.{Ok, Err, refl, sym, ◌∙◌, subst}
use Rattle.kernel_session.specs.Talk.{Talk, IsHeld, follow, if_open}
use Rattle.kernel_session.proofs.TalkLemmas.{nobody, heard_comm, follow-comm, open_held, closed_held}
use Rattle.kernel_session.proofs.talk.on_comm.Goals as goal

pub returns-then-says_open : goal.returns-then-says_open
returns-then-says_open g c =
    let p = c.follow.ensures in
    let id = c.args.id.now in
    let h = heard_comm (Ok c.in-Ok.answer) p.0 in (
      h,
      subst (λ (t : Talk). IsHeld g.D.Desk.leads c.args.desk.now (if_open id (Ok c.in-Ok.answer) t) c.follow.result c.follow.new.desk)
          (sym (follow-comm c.args.asked (Ok c.in-Ok.answer) p.0))
          (open_held g.D.Desk.leads c.args.desk.now c.ask.new.self c.follow.new.desk id c.in-Ok.answer (follow c.args.asked p.0) c.follow.result
          (sym c.says_open.ensures ∙ c.if-says_open.true)
          c.in-Ok.ensures p.1),
    )

pub returns-else-says_open : goal.returns-else-says_open
returns-else-says_open g c =
    let id = c.args.id.now in
    let h = heard_comm (Ok c.in-Ok.answer) nobody in (
      h,
      closed_held g.D.Desk.leads c.args.desk.now c.ask.new.self id c.in-Ok.answer (follow c.args.asked h)
          (sym c.says_open.ensures ∙ c.if-says_open.false)
          c.in-Ok.ensures,
    )

pub returns-in-Err : goal.returns-in-Err
returns-in-Err g c = (heard_comm (Err c.in-Err.field-0) nobody, ((c.ask.new.self, c.in-Err.ensures, refl), refl))
