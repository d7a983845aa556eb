use Rattle.std.proofs.Common.{ℕ, ap, subst}
use Rattle.kernel_desk.specs.HallDesk.{DeskState, AreRead}
use Rattle.kernel_desk.proofs.hall_desk.HallDeskDesk.broadcasts.Goals as goal

pub returns-clause-ok : goal.returns-clause-ok
returns-clause-ok g c = (
  c.in_ok-kept.place.number,
  subst (λ (n : ℕ). AreRead n c.in_ok-kept.kept.items c.in_ok-kept.place.number) (ap (λ (v : DeskState). v.place) c.self.view_is) c.in_ok-kept.ensures,
  ap (λ (v : DeskState). record v { place = c.in_ok-kept.place.number }) c.self.view_is,
)
