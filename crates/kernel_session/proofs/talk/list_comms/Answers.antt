use Rattle.std.proofs.Common.{Some, refl, sym, ap, ◌∙◌, option_map}
use Rattle.kernel_session.specs.declared.talk.DeskReply.TheVariants.{Answered}
use Rattle.kernel_session.proofs.TalkLemmas.{unasked, comms_held, no_comms_held}
use Rattle.kernel_session.proofs.talk.list_comms.Goals as goal

pub returns-then-asks_target : goal.returns-then-asks_target
returns-then-asks_target g c = let p = c.ask.ensures in (
  p.0,
  comms_held g.D.Desk.leads c.args.desk.now c.ask.new.desk (option_map (λ t. t.now) c.args.target) p.0 c.ask.result
      (sym c.asks_target.ensures ∙ c.if-asks_target.true) p.1,
)

pub returns-else-asks_target : goal.returns-else-asks_target
returns-else-asks_target g c = (
  unasked,
  no_comms_held g.D.Desk.leads c.args.desk.now c.args.desk.now (option_map (λ t. t.now) c.args.target) (Some (Answered c.no_answer.result))
      (sym c.asks_target.ensures ∙ c.if-asks_target.false) (refl, ap (λ a. Some (Answered a)) c.no_answer.ensures),
)
