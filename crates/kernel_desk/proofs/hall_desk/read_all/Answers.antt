use Rattle.std.proofs.Common.{List, sym, subst}
use Rattle.kernel_board.specs.Frames.{Frames}
use Rattle.kernel_desk.specs.HallDesk.{AreRead, none}
use Rattle.kernel_desk.proofs.hall_desk.read_all.Goals as goal

pub loop-init : goal.loop-init
loop-init g c = subst (λ (xs : List Frames). AreRead c.args.from.number xs c.args.from.number) (sym c.new-kept.ensures.items) none
