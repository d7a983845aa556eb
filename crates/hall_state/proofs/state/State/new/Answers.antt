use Rattle.std.proofs.Common.{◌≡◌, ◌∙◌, List, [], None, ap, sym, subst, rules}
use Rattle.kernel_audit.specs.Notes.{wished_in, comms_in}
use Rattle.kernel_audit.specs.Wishes.{WishOf}
use Rattle.kernel_audit.specs.Course.{HasCome}
use Rattle.kernel_audit.specs.declared.note.Note.{Note}
use Rattle.hall_state.specs.OpenResults.{AreSettled}
use Rattle.hall_state.specs.PendingResults.{AreBeside}
use Rattle.hall_state.proofs.Fresh.{is_new}
use Rattle.hall_state.proofs.BesidePosts.{beside_new, settled_new}
use Rattle.hall_state.proofs.state.State.new.Goals as goal

pub invariant_of-result : goal.invariant_of-result
invariant_of-result g c =
    let minutes = c.args.kernel.machine.minutes in
    let none : wished_in c.keeper-2.result ≡ [] = ap wished_in c.keeper-2.ensures in
    record {
      counted = search rules;
      told = search rules;
      closes = search rules;
      open_comms = ap comms_in c.keeper-2.ensures ∙ sym c.new.ensures;
      course = subst (λ (l : List Note). ∥ HasCome l c.args.kernel.machine ∥₁) (sym c.keeper-2.ensures)
          ∣ is_new c.args.kernel.machine c.show_legal.ensures c.requires.fresh c.requires.open ∣₁;
      beside = subst (λ (w : List (List WishOf)). ∥ AreBeside 0 minutes w c.new-2.result.items ∥₁) (sym none)
          ∣ beside_new minutes c.new-2.result.items c.requires.fresh c.new-2.ensures.items ∣₁;
      results = subst (λ (w : List (List WishOf)). ∥ AreSettled 0 c.args.kernel.machine w None ∥₁) (sym none)
          ∣ settled_new c.args.kernel.machine c.requires.fresh ∣₁;
    }
