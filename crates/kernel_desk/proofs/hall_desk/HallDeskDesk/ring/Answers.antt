use Rattle.std.proofs.Common.{ap, sym, subst, ◌∙◌}
use Rattle.atomic_table.specs.Seated.{TableId}
use Rattle.kernel_bell.specs.Seats.{RingerOf, ringer_seat}
use Rattle.kernel_bell.specs.Views.{after_look, after_raise}
use Rattle.kernel_desk.specs.HallDesk.{DeskState, IsRung}
use Rattle.kernel_desk.proofs.hall_desk.HallDeskDesk.ring.Goals as goal

-- the seat is of the bell that the hall has
pub returns : goal.returns
returns g c = (
  c.ring-serial.new.ringer,
  subst (λ (s : RingerOf). IsRung s c.ring-serial.new.ringer) (ap (λ (v : DeskState). v.seat) c.self.view_is) record {
    serial = c.ring-serial.result;
    later = c.ring-serial.ensures.later;
    seat = c.ring-serial.ensures.step
        ∙ ap (λ (b : TableId). ringer_seat b (after_raise (after_look c.self.inside.seat.knows c.ring-serial.result)))
        (c.bell.ensures ∙ sym c.self.invariant.0);
    within = c.ring-serial.ensures.within;
  },
  ap (λ (v : DeskState). record v { seat = c.ring-serial.new.ringer }) c.self.view_is,
)
