-- What went back is not done.
use Rattle.std.proofs.Common.{◌≡◌, ℕ, false, refl}
use Rattle.kernel_machine.specs.State.{Work, Posted, Move}
use Rattle.kernel_machine.specs.declared.heading.Why.{Why}
use Rattle.kernel_machine.specs.declared.heading.Why.TheVariants.{WasAsked, Faulted}
use Rattle.kernel_machine.specs.declared.travel.Aim.{Aim}
use Rattle.kernel_machine.specs.declared.travel.Aim.TheVariants.{Undo, Redo, Goto}
use Rattle.kernel_machine.specs.Slices.{turned, finished_by}
use Rattle.kernel_machine.specs.declared.outcome.TravelEnd.TheVariants.{Asked}
use Rattle.kernel_history.specs.Came.{is_done}

finished_not_done : (aim : Aim) (up down : ℕ) → is_done (finished_by aim up down Asked) ≡ false
finished_not_done Undo up down = refl
finished_not_done Redo up down = refl
finished_not_done (Goto n) up down = refl

pub turned_not_done : (work : Work) (why : Why) → is_done (turned work why) ≡ false
turned_not_done (Posted cell) (WasAsked at) = refl
turned_not_done (Posted cell) (Faulted fault at) = refl
turned_not_done (Move travel) why = finished_not_done travel.aim travel.went_up travel.went_down
