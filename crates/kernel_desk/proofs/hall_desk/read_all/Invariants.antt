use Rattle.kernel_desk.specs.HallDesk.{AreRead}
use Rattle.kernel_desk.proofs.hall_desk.read_all.Given as goal

-- what was read stands between the place where it began and the place where it goes on
abbrev pub invariant-loop : goal.invariant-loop
invariant-loop g l = AreRead l.fn.from.number l.kept.items l.place.number
