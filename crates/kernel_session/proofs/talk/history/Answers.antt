use Rattle.std.proofs.Common.{Some, refl, sym, ap, subst}
use Rattle.jupyter_msg.specs.declared.history.HistoryAccess.{HistoryAccess}
use Rattle.kernel_session.specs.declared.talk.DeskReply.TheVariants.{Answered}
use Rattle.kernel_session.specs.Talk.{IsHeld, history}
use Rattle.kernel_session.proofs.TalkLemmas.{unasked}
use Rattle.kernel_session.proofs.talk.history.Goals as goal

pub returns-in-Search : goal.returns-in-Search
returns-in-Search g c = (
  unasked,
  subst (λ (a : HistoryAccess). IsHeld g.D.Desk.leads c.args.desk.now (history c.args.request.now a unasked) (Some (Answered c.no_answer.result))
      c.args.desk.now)
      (sym c.in-Search.is) (refl, ap (λ a. Some (Answered a)) c.no_answer.ensures),
)
