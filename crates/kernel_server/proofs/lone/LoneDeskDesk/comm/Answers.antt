use Rattle.std.proofs.Common.{refl, ap, subst}
use Rattle.kernel_ask.specs.CommChanges.{IsChange}
use Rattle.kernel_server.specs.Lone.{Lone}
use Rattle.kernel_server.proofs.lone.LoneDeskDesk.comm.Goals as goal

pub returns : goal.returns
returns g c = record {
  asked = c.args.change;
  is_asked = refl;
  comms = c.comm_on.new.comms;
  changes = subst (λ (d : Lone). IsChange d.comms c.args.change c.comm_on.result c.comm_on.new.comms) c.self.view_is c.comm_on.ensures;
  new_is = ap (λ (d : Lone). record d { comms = c.comm_on.new.comms }) c.self.view_is;
}
