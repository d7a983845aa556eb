-- An open cell that was taken out of a history.
use Rattle.std.proofs.Common.{ap, ◌∙◌, sym, subst}
use Rattle.kernel_machine.specs.State.{State, here}
use Rattle.kernel_machine.specs.Legal.{IsLegal}
use Rattle.kernel_history.specs.OpenCell.{IsOpenCell}
use Rattle.kernel_history.specs.declared.open_cell.OpenCell.{OpenCell}
use Rattle.steps_walk.specs.Walk.{IsEntered}

-- its runner stands where the tree does
pub entered : {L : Type 0} (s : State) (o : OpenCell L) → IsOpenCell s o → IsLegal s.past → IsEntered o
entered s o h legal = record {
  at = h.at;
  stands = h.stands;
  code = h.code;
  world = h.world ∙ ap here (sym h.past);
  legal = subst IsLegal (sym h.past) legal;
}
