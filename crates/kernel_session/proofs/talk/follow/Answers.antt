use Rattle.std.proofs.Common.{List, Some, refl, sym, ap, subst}
use Rattle.jupyter_msg.specs.declared.comm.CommAsk.{CommAsk}
use Rattle.kernel_reply.specs.Wishes.{WishOf}
use Rattle.kernel_reply.specs.Request.{Undo, Redo, Goto}
use Rattle.kernel_session.specs.declared.talk.DeskReply.TheVariants.{Answered}
use Rattle.kernel_session.specs.Question.{wishes_of}
use Rattle.kernel_session.specs.Talk.{IsHeld, post, follow}
use Rattle.kernel_session.proofs.TalkLemmas.{nobody, heard_job, heard_answer}
use Rattle.kernel_session.proofs.talk.follow.Goals as goal

pub returns-in-Undo : goal.returns-in-Undo
returns-in-Undo g c = let p = c.post.ensures in (
  heard_job p.0 p.1,
  subst (λ (a : CommAsk). IsHeld g.D.Desk.leads c.args.desk.now (follow a (heard_job p.0 p.1)) c.post.result c.post.new.desk) (sym c.in-Undo.is)
      (subst (λ (w : List WishOf). IsHeld g.D.Desk.leads c.args.desk.now (post (Undo c.in-Undo.k) (wishes_of w) p.0 p.1) c.post.result c.post.new.desk)
      c.new.ensures.items p.2),
)

pub returns-in-Redo : goal.returns-in-Redo
returns-in-Redo g c = let p = c.post-in-Redo.ensures in (
  heard_job p.0 p.1,
  subst (λ (a : CommAsk). IsHeld g.D.Desk.leads c.args.desk.now (follow a (heard_job p.0 p.1)) c.post-in-Redo.result c.post-in-Redo.new.desk) (sym c.in-Redo.is)
      (subst (λ (w : List WishOf). IsHeld g.D.Desk.leads c.args.desk.now (post (Redo c.in-Redo.k) (wishes_of w) p.0 p.1)
      c.post-in-Redo.result c.post-in-Redo.new.desk)
      c.new-in-Redo.ensures.items p.2),
)

pub returns-in-Goto : goal.returns-in-Goto
returns-in-Goto g c = let p = c.post-in-Goto.ensures in (
  heard_job p.0 p.1,
  subst (λ (a : CommAsk). IsHeld g.D.Desk.leads c.args.desk.now (follow a (heard_job p.0 p.1)) c.post-in-Goto.result c.post-in-Goto.new.desk) (sym c.in-Goto.is)
      (subst (λ (w : List WishOf). IsHeld g.D.Desk.leads c.args.desk.now (post (Goto c.in-Goto.n) (wishes_of w) p.0 p.1)
      c.post-in-Goto.result c.post-in-Goto.new.desk)
      c.new-in-Goto.ensures.items p.2),
)

pub returns-in-State : goal.returns-in-State
returns-in-State g c = let p = c.ask.ensures in (
  heard_answer p.0,
  subst (λ (a : CommAsk). IsHeld g.D.Desk.leads c.args.desk.now (follow a (heard_answer p.0)) c.ask.result c.ask.new.desk) (sym c.in-State.is) p.1,
)

pub returns-in-Other : goal.returns-in-Other
returns-in-Other g c = (
  nobody,
  subst (λ (a : CommAsk). IsHeld g.D.Desk.leads c.args.desk.now (follow a nobody) (Some (Answered c.no_answer.result)) c.args.desk.now) (sym c.in-Other.is)
      (refl, ap (λ a. Some (Answered a)) c.no_answer.ensures),
)
