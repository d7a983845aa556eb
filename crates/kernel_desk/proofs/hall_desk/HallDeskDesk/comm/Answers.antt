use Rattle.kernel_desk.proofs.Calls.{knows_on, is_changed}
use Rattle.kernel_desk.proofs.hall_desk.HallDeskDesk.comm.Goals as goal

pub invariant_of-self : goal.invariant_of-self
invariant_of-self g c = (
  c.self.invariant.0,
  knows_on c.self.inside.was_shut c.self.inside.pass c.comm.new.pass c.self.invariant.1 c.comm.ensures.seen,
)

pub returns : goal.returns
returns g c =
    let comm = c.comm.ensures in
    is_changed _ _ c.args.change c.comm.result c.comm.new.pass c.self.view_is comm.change comm.seen comm.acts
