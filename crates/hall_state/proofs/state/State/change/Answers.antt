use Rattle.std.proofs.Common.{List, refl, sym, subst, ◌∙◌}
use Rattle.kernel_audit.specs.Wishes.{WishOf}
use Rattle.kernel_audit.proofs.Course.{came_on}
use Rattle.hall_state.specs.OpenResults.{AreSettled}
use Rattle.hall_state.specs.PendingResults.{AreBeside}
use Rattle.hall_state.proofs.state.State.change.Goals as goal

pub invariant_of-self : goal.invariant_of-self
invariant_of-self g c =
    let old = c.args.self.now in
    let wished = sym c.note_comms.ensures.wishes in
    record {
      counted = old.counted;
      told = old.told;
      closes = c.note_comms.ensures.shut ∙ old.closes;
      open_comms = c.note_comms.ensures.comms ∙ sym c.note_comms.ensures.same;
      course = came_on old.notes c.note_comms.new.notes _ old.kernel.machine old.kernel.machine c.note_comms.ensures.noted
          old.course refl;
      beside = subst (λ (w : List (List WishOf)). ∥ AreBeside old.settled old.kernel.machine.minutes w old.pending_results.items ∥₁) wished old.beside;
      results = subst (λ (w : List (List WishOf)). ∥ AreSettled old.settled old.kernel.machine w old.under_way ∥₁) wished old.results;
    }
