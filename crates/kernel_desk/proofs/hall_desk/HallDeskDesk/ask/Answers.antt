use Rattle.kernel_desk.proofs.Calls.{knows_on, is_answered}
use Rattle.kernel_desk.proofs.hall_desk.HallDeskDesk.ask.Goals as goal

pub invariant_of-self : goal.invariant_of-self
invariant_of-self g c = (
  c.self.invariant.0,
  knows_on c.self.inside.was_shut c.self.inside.pass c.ask.new.pass c.self.invariant.1 c.ask.ensures.seen,
)

pub returns : goal.returns
returns g c =
    let ask = c.ask.ensures in
    is_answered _ _ c.args.ask c.ask.result c.ask.new.pass c.self.view_is ask.answer ask.own ask.refusal ask.noted ask.seen ask.acts
